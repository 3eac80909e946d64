use Rattle.game_folder.specs.FolderGames.{folder_games_facts}
use Rattle.served_games.proofs.AtOnce.{folder_games_keep_at_once}
use Rattle.theorems.proofs.Serving.{runs_are_hosted}
use Rattle.theorems.proofs.served.served_folder_is_hosted.Goals as goal

pub returns : goal.returns
returns g c = let o = g.S.System.outside c.args._system.now in runs_are_hosted o (folder_games_facts o) (folder_games_keep_at_once o)
