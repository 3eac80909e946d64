use Rattle.answer_commands.proofs.SealLaws.{keys_refused}
use Rattle.answer_commands.proofs.sealing.refuse_keys.Goals as goal

pub returns-clause-made : goal.returns-clause-made
returns-clause-made g c = keys_refused (g.S.System.outside c.args.system.now) _ _ _ c.args.path.now c.args.refusal.now c.print_refusal.result c.note_keys.ensures c.print_refusal.ensures.made
