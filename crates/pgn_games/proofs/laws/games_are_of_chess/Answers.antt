use Rattle.pgn_games.proofs.SoundLaws.{games_are_of_chess}
use Rattle.pgn_games.proofs.laws.games_are_of_chess.Goals as goal

pub returns : goal.returns
returns c = games_are_of_chess
