use Rattle.answer_parts.specs.Lines.{refusal_words}
use Rattle.answer_commands.specs.Sending.{SendsAt}
use Rattle.host_commands.proofs.StepLaws.{goes_on, is_refused}
use Rattle.host_commands.specs.Binds.{BindsPort}
use Rattle.answer_commands.proofs.sending.send_from.Goals as goal

pub returns-in-Ok-clause-made : goal.returns-in-Ok-clause-made
returns-in-Ok-clause-made g c =
    let o = g.S.System.outside c.args.system.now in
    let t = c.args.task.now in
    goes_on o _ _ _ (BindsPort o t.bind.now t.to.now) (SendsAt o t c.args.game) c.in-Ok.port c.send_at.result c.in-Ok.ensures c.send_at.ensures.made

pub returns-in-Err-clause-made : goal.returns-in-Err-clause-made
returns-in-Err-clause-made g c =
    let o = g.S.System.outside c.args.system.now in
    let t = c.args.task.now in
    is_refused o _ _ _ (BindsPort o t.bind.now t.to.now) (SendsAt o t c.args.game) (refusal_words c.in-Err.refusal) c.print_refusal.result c.in-Err.ensures c.print_refusal.ensures.made
