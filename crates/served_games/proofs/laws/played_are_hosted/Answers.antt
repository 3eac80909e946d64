use Rattle.served_games.proofs.Going.{played_are_hosted}
use Rattle.served_games.proofs.laws.played_are_hosted.Goals as goal

pub returns : goal.returns
returns g c = λ place t stamp. played_are_hosted (g.G.Games.facts c.args._system.now) place t stamp
