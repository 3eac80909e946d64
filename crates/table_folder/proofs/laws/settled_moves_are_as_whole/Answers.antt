use Rattle.table_folder.proofs.WholeMoves.{moves_as_whole}
use Rattle.table_folder.proofs.laws.settled_moves_are_as_whole.Goals as goal

pub returns : goal.returns
returns g c =
    moves_as_whole c.position_after_is_computed.ensures c.capture_takes_one_man.ensures c.other_move_keeps_the_men.ensures c.more_tables_answer_the_same.ensures c.what_is_missing_stays_missing.ensures _
