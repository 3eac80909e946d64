use Rattle.table_folder.proofs.WholeMoves.{games_as_whole}
use Rattle.table_folder.proofs.laws.settled_games_are_as_whole.Goals as goal

pub returns : goal.returns
returns g c = games_as_whole c.games_depend_on_rulings.ensures c.more_tables_answer_the_same.ensures c.what_is_missing_stays_missing.ensures _
