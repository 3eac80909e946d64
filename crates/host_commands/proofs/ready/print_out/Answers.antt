use Rattle.host_commands.proofs.StepLaws.{text_refused, text_written}
use Rattle.host_commands.proofs.ready.print_out.Goals as goal

pub returns-in-Ok-clause-made : goal.returns-in-Ok-clause-made
returns-in-Ok-clause-made g c = text_written (g.S.System.outside c.args.system.now) _ _ _ c.args.text.now tt c.flush.result (rw c.as_bytes.ensures.value at c.in-Ok.ensures.made) c.flush.ensures.made

pub returns-in-Err-clause-made : goal.returns-in-Err-clause-made
returns-in-Err-clause-made g c = text_refused (g.S.System.outside c.args.system.now) _ _ c.args.text.now c.in-Err.fault (rw c.as_bytes.ensures.value at c.in-Err.ensures.made)
