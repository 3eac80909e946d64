use Rattle.served_games.proofs.Running.{games_are_played}
use Rattle.served_games.proofs.laws.games_are_played.Goals as goal

pub returns : goal.returns
returns g c = games_are_played (g.S.System.outside c.args._system.now) (g.G.Games.facts c.args._system.now)
