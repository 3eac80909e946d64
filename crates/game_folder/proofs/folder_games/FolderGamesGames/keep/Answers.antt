use Rattle.std.proofs.Common.{refl}
use Rattle.arbiter_server.specs.GameFolders.{kept_path}
use Rattle.game_folder.specs.FolderGames.{folder_games_facts}
use Rattle.game_folder.proofs.RecordLaws.{has_file, keeps_by_file, path_of_kept}
use Rattle.game_folder.proofs.folder_games.FolderGamesGames.keep.Goals as goal

pub put_file-requires : goal.put_file-requires
put_file-requires g c = has_file (g.S.System.outside c.args.system.now) (kept_path c.args.self.now.folder.now c.args.game.now.stamp) c.args.game.now.file c.requires

pub returns : goal.returns
returns g c =
    let o = g.S.System.outside c.args.system.now in
    let path = kept_path c.args.self.now.folder.now c.args.game.now.stamp in
    let h = c.put_file.ensures in
    record {
      made = (
        h.0,
        h.1,
        keeps_by_file o (folder_games_facts o) c.args.self.now c.args.self.now path c.args.game.now c.put_file.new.game c.put_file.result h.0 refl refl (λ s b n. n) (path_of_kept o path c.args.game.now.file c.requires) (λ ok. refl) (λ bytes is. (is, refl)) h.2,
      );
    }
