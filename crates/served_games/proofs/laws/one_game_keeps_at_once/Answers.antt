use Rattle.served_games.proofs.AtOnce.{one_game_keeps_at_once}
use Rattle.served_games.proofs.laws.one_game_keeps_at_once.Goals as goal

pub returns : goal.returns
returns g c = one_game_keeps_at_once (g.S.System.outside c.args._system.now)
