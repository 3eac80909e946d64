use Rattle.std.proofs.Common.{subst}
use Rattle.std.specs.Prelude.{Ok, Err}
use Rattle.task_files.specs.InputReads.{ReadsGiven}
use Rattle.task_files.specs.Sources.{Named}
use Rattle.timeline.specs.Outsides.{AddsSome}
use Rattle.game_reports.proofs.AuditLaws.{by_tables, tables_unread}
use Rattle.game_reports.proofs.audit.print_audit.Goals as goal

pub returns-in-Ok-clause-made : goal.returns-in-Ok-clause-made
returns-in-Ok-clause-made g c =
    let o = g.S.System.outside c.args.system.now in
    let read = subst (λ (n : Named). AddsSome o c.args.timeline.now c.read_inputs.new.timeline (ReadsGiven o n (Ok c.in-Ok.sources))) c.places-names.ensures c.in-Ok.ensures in
    by_tables o c.args.task.now _ _ _ c.in-Ok.sources c.audit_by.result read c.audit_by.ensures.made

pub returns-in-Err-clause-made : goal.returns-in-Err-clause-made
returns-in-Err-clause-made g c =
    let o = g.S.System.outside c.args.system.now in
    let read = subst (λ (n : Named). AddsSome o c.args.timeline.now c.read_inputs.new.timeline (ReadsGiven o n (Err c.in-Err.fault))) c.places-names.ensures c.in-Err.ensures in
    tables_unread o c.args.task.now _ _ _ c.in-Err.fault c.print_unread.result read c.print_unread.ensures.made
