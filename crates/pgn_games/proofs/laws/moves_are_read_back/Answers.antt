use Rattle.pgn_games.proofs.BackLaws.{moves_are_read_back}
use Rattle.pgn_games.proofs.laws.moves_are_read_back.Goals as goal

pub returns : goal.returns
returns c = moves_are_read_back
