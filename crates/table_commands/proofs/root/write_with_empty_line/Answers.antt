use Rattle.answer_parts.proofs.PrintLaws.{fails_at}
use Rattle.answer_parts.specs.Asked.{reply_of}
use Rattle.table_commands.proofs.RootLaws.{cut_answer, cut_empty_line, with_empty_line}
use Rattle.table_commands.proofs.root.write_with_empty_line.Goals as goal

pub returns-in-Ok-write-clause-made : goal.returns-in-Ok-write-clause-made
returns-in-Ok-write-clause-made g c = with_empty_line (g.S.System.outside c.args.system.now) (reply_of c.args.answer.now) _ _ _ c.in-Ok.status c.in-Ok.ensures.made c.in-Ok-write.ensures.made

pub returns-in-Err-write-clause-made : goal.returns-in-Err-write-clause-made
returns-in-Err-write-clause-made g c = cut_empty_line (g.S.System.outside c.args.system.now) (reply_of c.args.answer.now) _ _ _ c.in-Ok.status c.in-Ok.ensures.made c.in-Err-write.ensures.made

pub returns-in-Err-write-clause-cause : goal.returns-in-Err-write-clause-cause
returns-in-Err-write-clause-cause g c = λ _. fails_at (g.S.System.outside c.args.system.now) _ c.in-Err-write.ensures.cause

pub returns-in-Err-clause-made : goal.returns-in-Err-clause-made
returns-in-Err-clause-made g c = cut_answer (g.S.System.outside c.args.system.now) (reply_of c.args.answer.now) _ _ c.in-Err.field-0 c.in-Err.ensures.made
