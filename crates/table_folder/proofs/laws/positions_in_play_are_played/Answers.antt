use Rattle.table_folder.proofs.WholeMoves.{in_play_is_played}
use Rattle.table_folder.proofs.laws.positions_in_play_are_played.Goals as goal

pub returns : goal.returns
returns c = in_play_is_played
