use Rattle.game_folder.specs.FolderGames.{folder_games_facts}
use Rattle.served_games.proofs.AtOnce.{folder_games_keep_at_once}
use Rattle.served_games.proofs.Following.{games_are_found}
use Rattle.served_games.proofs.laws.folder_games_are_found.Goals as goal

pub returns : goal.returns
returns g c =
    let o = g.S.System.outside c.args._system.now in
    games_are_found o (folder_games_facts o) (folder_games_keep_at_once o)
