use Rattle.std.specs.Prelude.{option_map}
use Rattle.game_reports.proofs.OpeningLaws.{by_folders, folders_refused}
use Rattle.game_reports.specs.Audits.{IsAuditLine}
use Rattle.game_reports.specs.GameLines.{TellsGames}
use Rattle.game_reports.specs.Inside.Opening.{known_folders}
use Rattle.game_reports.proofs.audit.audit_folders.Goals as goal

pub returns-in-Ok-clause-made : goal.returns-in-Ok-clause-made
returns-in-Ok-clause-made g c = by_folders (g.S.System.outside c.args.system.now) c.args.task.now.games.now (option_map (λ s. s.now) c.args.task.now.other) _ _ _ (TellsGames (g.S.System.outside c.args.system.now).disk (IsAuditLine c.args.tables.manifest.now c.args.tables.set.tables)) (known_folders c.in-Ok.folders) c.print_games.result c.in-Ok.ensures c.print_games.ensures.made

pub returns-in-Err-clause-made : goal.returns-in-Err-clause-made
returns-in-Err-clause-made g c = folders_refused (g.S.System.outside c.args.system.now) c.args.task.now.games.now (option_map (λ s. s.now) c.args.task.now.other) _ _ _ (TellsGames (g.S.System.outside c.args.system.now).disk (IsAuditLine c.args.tables.manifest.now c.args.tables.set.tables)) _ c.print_refusal.result c.in-Err.ensures c.print_refusal.ensures.made
