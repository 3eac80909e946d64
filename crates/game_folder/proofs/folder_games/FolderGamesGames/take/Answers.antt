use Rattle.std.proofs.Common.{◌≡◌, ◌∙◌, [], refl}
use Rattle.arbiter_server.specs.GameFolders.{kept_path}
use Rattle.timeline.proofs.EventLaws.{adds_none}
use Rattle.game_folder.specs.FolderGames.{folder_games_facts}
use Rattle.game_folder.specs.RecordFiles.{HadNoRoom}
use Rattle.game_folder.proofs.RecordLaws.{known_nothing, takes_by_file}
use Rattle.game_folder.proofs.folder_games.FolderGamesGames.take.Goals as goal

pub returns-in_default : goal.returns-in_default
returns-in_default g c = record {
  made = (
    [],
    adds_none (g.S.System.outside c.args.system.now) c.args.timeline.now,
    record { still = record { quiet = tt; place = refl }; noted = λ stamp bytes n. n; taken = (HadNoRoom refl refl, refl, known_nothing (g.S.System.outside c.args.system.now) _); ok = tt },
  );
}

pub returns : goal.returns
returns g c =
    let o = g.S.System.outside c.args.system.now in
    let games = c.args.self.now in
    let h = c.take_file.ensures in
    let path = kept_path games.folder.now c.args.stamp in
    let at : c.as_str.result.now ≡ path = ◌∙◌ {c = path} c.as_str.ensures.value c.in-Ok.ensures in
    record {
      made = (
        h.0,
        h.1,
        takes_by_file o (folder_games_facts o) games path c.args.stamp c.take_file.result h.0 refl (λ got t k. (t, refl, k)) c.as_str.result.now at h.2,
      );
    }
