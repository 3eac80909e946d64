use Rattle.std.proofs.Common.{sym}
use Rattle.answer_parts.specs.Lines.{refusal_words}
use Rattle.answer_parts.specs.Looks.{gathered}
use Rattle.table_commands.specs.Pgn.{JudgesOf}
use Rattle.table_commands.proofs.PgnLaws.{by_bad_tables, by_tables, no_room}
use Rattle.table_commands.proofs.pgn.judge_by_all.Goals as goal

pub returns-in-Ok-Ok-clause-made : goal.returns-in-Ok-Ok-clause-made
returns-in-Ok-Ok-clause-made g c =
    by_tables (g.S.System.outside c.args.system.now) (gathered c.args.given.now) (JudgesOf (g.S.System.outside c.args.system.now).disk (g.S.System.outside c.args.system.now).input c.args.task.now) _ _ c.in-Ok-Ok.set.tables c.report_file.result (sym (rw c.in-Ok-Ok.field-0-is at c.in-Ok-Ok.ensures.tables)) c.report_file.ensures.made

pub returns-in-Ok-Err-clause-made : goal.returns-in-Ok-Err-clause-made
returns-in-Ok-Err-clause-made g c =
    by_bad_tables (g.S.System.outside c.args.system.now) (gathered c.args.given.now) (JudgesOf (g.S.System.outside c.args.system.now).disk (g.S.System.outside c.args.system.now).input c.args.task.now) _ _ (refusal_words c.in-Ok-Err.refusal) c.print_refusal.result (sym (rw c.in-Ok-Err.field-0-is at c.in-Ok-Err.ensures.tables)) c.print_refusal.ensures.made

pub returns-in-Err-clause-made : goal.returns-in-Err-clause-made
returns-in-Err-clause-made g c = no_room (g.S.System.outside c.args.system.now) (gathered c.args.given.now) (JudgesOf (g.S.System.outside c.args.system.now).disk (g.S.System.outside c.args.system.now).input c.args.task.now) _ _ c.print_refusal-in-Err.result c.print_refusal-in-Err.ensures.made
