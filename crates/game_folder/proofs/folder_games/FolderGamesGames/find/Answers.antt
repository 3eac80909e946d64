use Rattle.game_folder.proofs.FolderLaws.{finding_sends_nothing, stands_on}
use Rattle.game_folder.proofs.folder_games.FolderGamesGames.find.Goals as goal

pub returns-clause-made : goal.returns-clause-made
returns-clause-made g c =
    let h = c.find_file.ensures.made in
    (h.0, h.1, record { quiet = finding_sends_nothing c.args.self.now.folder.now c.args.stamp c.find_file.result h.0 h.2; found = (h.2, stands_on (g.S.System.outside c.args.system.now).disk c.args.self.now.folder.now c.args.stamp c.find_file.result c.find_file.ensures.told c.find_file.ensures.lacks) })
