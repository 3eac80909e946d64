use Rattle.game_folder.specs.OneGame.{one_game_facts}
use Rattle.served_games.proofs.AtOnce.{one_game_keeps_at_once}
use Rattle.theorems.proofs.Serving.{runs_are_hosted}
use Rattle.theorems.proofs.served.served_game_is_hosted.Goals as goal

pub returns : goal.returns
returns g c = let o = g.S.System.outside c.args._system.now in runs_are_hosted o (one_game_facts o) (one_game_keeps_at_once o)
