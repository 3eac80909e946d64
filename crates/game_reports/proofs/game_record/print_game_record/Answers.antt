use Rattle.game_reports.proofs.GameRecordLaws.{folder_printed, folder_refused}
use Rattle.game_reports.specs.Inside.StoreReading.{opened_of}
use Rattle.game_reports.proofs.game_record.print_game_record.Goals as goal

pub returns-in-Ok-clause-made : goal.returns-in-Ok-clause-made
returns-in-Ok-clause-made g c = folder_printed (g.S.System.outside c.args.system.now) _ _ _ c.args.task.now (opened_of c.in-Ok.folder) c.print_kept.result c.in-Ok.ensures (rw c.deref.ensures.value at c.print_kept.ensures.made)

pub returns-in-Err-clause-made : goal.returns-in-Err-clause-made
returns-in-Err-clause-made g c = folder_refused (g.S.System.outside c.args.system.now) _ _ _ c.args.task.now _ c.print_refusal.result c.in-Err.ensures c.print_refusal.ensures.made
