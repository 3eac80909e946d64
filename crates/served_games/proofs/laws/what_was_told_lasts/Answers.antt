use Rattle.served_games.proofs.Lasting.{each_lasts}
use Rattle.served_games.proofs.laws.what_was_told_lasts.Goals as goal

pub returns : goal.returns
returns g c = each_lasts (g.G.Games.facts c.args._system.now)
