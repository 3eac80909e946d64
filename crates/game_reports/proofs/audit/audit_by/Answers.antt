use Rattle.std.proofs.Common.{sym}
use Rattle.answer_parts.specs.Lines.{refusal_words}
use Rattle.game_reports.proofs.AuditLaws.{audited, bad_tables, no_room}
use Rattle.game_reports.proofs.audit.audit_by.Goals as goal

pub returns-in-Ok-Err-clause-made : goal.returns-in-Ok-Err-clause-made
returns-in-Ok-Err-clause-made g c =
    let is = sym (rw c.in-Ok-Err.field-0-is at c.in-Ok-Err.ensures.tables) in
    bad_tables (g.S.System.outside c.args.system.now) c.args.task.now _ _ c.args.sources.now (refusal_words c.in-Ok-Err.refusal) c.print_refusal.result is c.print_refusal.ensures.made

pub returns-in-Err-clause-made : goal.returns-in-Err-clause-made
returns-in-Err-clause-made g c = no_room (g.S.System.outside c.args.system.now) c.args.task.now _ _ c.args.sources.now c.print_refusal-in-Err.result c.print_refusal-in-Err.ensures.made

pub returns-in-Err-manifest_of_sources-clause-made : goal.returns-in-Err-manifest_of_sources-clause-made
returns-in-Err-manifest_of_sources-clause-made g c = no_room (g.S.System.outside c.args.system.now) c.args.task.now _ _ c.args.sources.now c.print_refusal-in-Err-manifest_of_sources.result c.print_refusal-in-Err-manifest_of_sources.ensures.made

pub returns-clause-made : goal.returns-clause-made
returns-clause-made g c =
    let is = sym (rw c.in-Ok-Ok.field-0-is at c.in-Ok-Ok.ensures.tables) in
    audited (g.S.System.outside c.args.system.now) c.args.task.now _ _ c.args.sources.now c.in-Ok-Ok.set.tables c.in-Ok.manifest.items c.audit_folders.result is c.in-Ok.ensures (rw c.deref.ensures.value at c.audit_folders.ensures.made)
