use Rattle.served_games.proofs.Following.{games_are_found}
use Rattle.served_games.proofs.laws.games_are_found.Goals as goal

pub returns : goal.returns
returns g c = λ at_once. games_are_found (g.S.System.outside c.args._system.now) (g.G.Games.facts c.args._system.now) at_once
