use Rattle.served_games.proofs.AtOnce.{folder_games_keep_at_once}
use Rattle.served_games.proofs.laws.folder_games_keep_at_once.Goals as goal

pub returns : goal.returns
returns g c = folder_games_keep_at_once (g.S.System.outside c.args._system.now)
