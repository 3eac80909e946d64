use Rattle.pgn_games.proofs.EndLaws.{none_is_the_end}
use Rattle.pgn_games.proofs.laws.none_is_the_end.Goals as goal

pub returns : goal.returns
returns c = none_is_the_end
