use Rattle.answer_parts.specs.Asked.{reply_of}
use Rattle.line_events.proofs.WritingLaws.{reply_written, reply_cut}
use Rattle.line_events.proofs.writing.write_answer.Goals as goal

pub returns-in-Ok-clause-made : goal.returns-in-Ok-clause-made
returns-in-Ok-clause-made g c = reply_written (g.S.System.outside c.args.system.now) _ _ (reply_of c.args.answer.now) c.in-Ok.status c.in-Ok.ensures.made

pub returns-in-Err-clause-made : goal.returns-in-Err-clause-made
returns-in-Err-clause-made g c = reply_cut (g.S.System.outside c.args.system.now) _ _ (reply_of c.args.answer.now) c.in-Err.field-0 c.in-Err.ensures.made
