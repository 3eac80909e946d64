use Rattle.std.proofs.Common.{◌∙◌, ap}
use Rattle.serve_core.proofs.ServeLaws.{lost_told}
use Rattle.serve_core.specs.Refusals.{refusal_for}
use Rattle.serve_core.proofs.task.print_lost.Goals as goal

pub returns-clause-made : goal.returns-clause-made
returns-clause-made g c = lost_told (g.S.System.outside c.args.system.now) _ _ _ _ c.refusal.result _ (c.refusal.ensures ∙ ap refusal_for c.by.ensures) c.note_lost.ensures c.print_refusal.ensures.made
