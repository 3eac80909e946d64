use Rattle.std.proofs.Common.{sym}
use Rattle.answer_parts.specs.Lines.{refusal_words}
use Rattle.answer_parts.specs.Looks.{gathered}
use Rattle.table_commands.proofs.PgnLaws.{by_bad_tables, by_tables, no_room}
use Rattle.table_commands.proofs.line_tasks.answer_of.Goals as goal

pub returns-in-Ok-Ok-clause-made : goal.returns-in-Ok-Ok-clause-made
returns-in-Ok-Ok-clause-made g c =
    let o = g.S.System.outside c.args.system.now in
    by_tables o (gathered c.args.sources.now) ((g.L.LineTask.asking c.args.task.now).ByTables o.input) _ _ c.in-Ok-Ok.set.tables c.answer_by_tables.result (sym (rw c.in-Ok-Ok.field-0-is at c.in-Ok-Ok.ensures.tables)) c.answer_by_tables.ensures.made

pub returns-in-Ok-Err-clause-made : goal.returns-in-Ok-Err-clause-made
returns-in-Ok-Err-clause-made g c =
    let o = g.S.System.outside c.args.system.now in
    by_bad_tables o (gathered c.args.sources.now) ((g.L.LineTask.asking c.args.task.now).ByTables o.input) _ _ (refusal_words c.in-Ok-Err.refusal) c.print_refusal.result (sym (rw c.in-Ok-Err.field-0-is at c.in-Ok-Err.ensures.tables)) c.print_refusal.ensures.made

pub returns-in-Err-clause-made : goal.returns-in-Err-clause-made
returns-in-Err-clause-made g c =
    let o = g.S.System.outside c.args.system.now in
    no_room o (gathered c.args.sources.now) ((g.L.LineTask.asking c.args.task.now).ByTables o.input) _ _ c.print_refusal-in-Err.result c.print_refusal-in-Err.ensures.made
