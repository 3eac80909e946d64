use Rattle.answer_parts.specs.Lines.{refusal_words}
use Rattle.answer_commands.proofs.SendLaws.{sends_game, sends_none}
use Rattle.answer_commands.proofs.sending.send.Goals as goal

pub returns-in-Ok-clause-made : goal.returns-in-Ok-clause-made
returns-in-Ok-clause-made g c = sends_game (g.S.System.outside c.args.system.now) _ _ _ c.args.task.now c.in-Ok.game c.send_from.result c.in-Ok.ensures c.send_from.ensures.made

pub returns-in-Err-clause-made : goal.returns-in-Err-clause-made
returns-in-Err-clause-made g c = sends_none (g.S.System.outside c.args.system.now) _ _ _ c.args.task.now (refusal_words c.in-Err.refusal) c.print_refusal.result c.in-Err.ensures c.print_refusal.ensures.made
