use Rattle.served_games.proofs.FolderRuns.{folder_games_keep_what_they_told}
use Rattle.served_games.proofs.laws.folder_games_keep_what_they_told.Goals as goal

pub returns : goal.returns
returns g c = folder_games_keep_what_they_told (g.S.System.outside c.args._system.now)
