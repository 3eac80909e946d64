use Rattle.std.specs.Prelude.{option_map}
use Rattle.game_reports.proofs.OpeningLaws.{games_known, games_refused, no_room_for_games}
use Rattle.game_reports.specs.Inside.Opening.{both_of, known_folders}
use Rattle.game_reports.proofs.folders.open_games.Goals as goal

pub returns-in-Err : goal.returns-in-Err
returns-in-Err g c = games_refused (g.S.System.outside c.args.system.now) c.args.folder.now (option_map (λ s. s.now) c.args.other) _ _ _ c.in-Err.ensures

pub returns-in-Ok-all_known_by : goal.returns-in-Ok-all_known_by
returns-in-Ok-all_known_by g c = games_known (g.S.System.outside c.args.system.now) c.args.folder.now (option_map (λ s. s.now) c.args.other) _ _ (both_of c.in-Ok.opened) (known_folders c.in-Ok-all_known_by.folders) c.in-Ok-all_known_by.ensures c.in-Ok.ensures

pub returns-in-Err-all_known_by : goal.returns-in-Err-all_known_by
returns-in-Err-all_known_by g c = no_room_for_games (g.S.System.outside c.args.system.now) c.args.folder.now (option_map (λ s. s.now) c.args.other) _ _ (both_of c.in-Ok.opened) c.in-Ok.ensures
