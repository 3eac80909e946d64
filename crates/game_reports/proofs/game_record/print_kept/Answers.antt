use Rattle.system_io.specs.Records.{records_of}
use Rattle.game_reports.proofs.GameRecordLaws.{kept_filed, kept_stored}
use Rattle.game_reports.proofs.game_record.print_kept.Goals as goal

pub returns-in-Some-clause-made : goal.returns-in-Some-clause-made
returns-in-Some-clause-made g c = kept_stored (g.S.System.outside c.args.system.now) _ _ c.args.task.now (records_of c.args.entries.now c.args.task.now.stamp) _ c.print_stored.result c.in-Some.ensures c.print_stored.ensures.made

pub returns-in-None-clause-made : goal.returns-in-None-clause-made
returns-in-None-clause-made g c = kept_filed (g.S.System.outside c.args.system.now) _ _ c.args.task.now (records_of c.args.entries.now c.args.task.now.stamp) c.print_filed.result c.in-None.ensures c.print_filed.ensures.made
