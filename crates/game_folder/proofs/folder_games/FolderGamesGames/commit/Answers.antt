use Rattle.std.proofs.Common.{[], refl}
use Rattle.timeline.proofs.EventLaws.{adds_none}
use Rattle.game_folder.proofs.folder_games.FolderGamesGames.commit.Goals as goal

pub returns : goal.returns
returns g c = record {
  made = (
    [],
    adds_none (g.S.System.outside c.args._system.now) c.args._timeline.now,
    record { still = record { quiet = tt; place = refl }; done = (refl, refl, refl); kept = λ stamp bytes none. absurd none; left = tt },
  );
}
