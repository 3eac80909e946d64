use Rattle.std.specs.Prelude.{option_map}
use Rattle.game_reports.proofs.OpeningLaws.{by_folders, folders_refused}
use Rattle.game_reports.specs.Inside.Opening.{known_folders}
use Rattle.game_reports.specs.Statuses.{ReportsGames}
use Rattle.game_reports.proofs.status.report_status.Goals as goal

pub returns-in-Ok-clause-made : goal.returns-in-Ok-clause-made
returns-in-Ok-clause-made g c = by_folders (g.S.System.outside c.args.system.now) c.args.task.now.games.now (option_map (λ s. s.now) c.args.task.now.other) _ _ _ (ReportsGames (g.S.System.outside c.args.system.now).disk c.args.task.now.report) (known_folders c.in-Ok.folders) c.report_games.result c.in-Ok.ensures c.report_games.ensures.made

pub returns-in-Err-clause-made : goal.returns-in-Err-clause-made
returns-in-Err-clause-made g c = folders_refused (g.S.System.outside c.args.system.now) c.args.task.now.games.now (option_map (λ s. s.now) c.args.task.now.other) _ _ _ (ReportsGames (g.S.System.outside c.args.system.now).disk c.args.task.now.report) _ c.print_refusal.result c.in-Err.ensures c.print_refusal.ensures.made
