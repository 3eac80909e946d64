use Rattle.std.proofs.Common.{◌∷◌, []}
use Rattle.answer_parts.specs.Lines.{refusal_words}
use Rattle.serve_core.proofs.ServeLaws.{not_bound, one_is_refused}
use Rattle.serve_core.proofs.task.serve_folder_if.Goals as goal

pub returns-in-Ok-clause-made : goal.returns-in-Ok-clause-made
returns-in-Ok-clause-made g c = rw c.in-Ok.is c.serve_folder.ensures.made

pub returns-in-Ok-clause-replied : goal.returns-in-Ok-clause-replied
returns-in-Ok-clause-replied g c = rw c.in-Ok.is c.serve_folder.ensures.replied

pub returns-in-Err-clause-made : goal.returns-in-Err-clause-made
returns-in-Err-clause-made g c = rw c.in-Err.is (not_bound (g.S.System.outside c.args.by.now.system.now) _ _ _ _ c.in-Err.unbound c.refusal.result _ c.refusal.ensures c.print_refusal.ensures.made)

pub returns-in-Err-clause-replied : goal.returns-in-Err-clause-replied
returns-in-Err-clause-replied g c = rw c.in-Err.is (one_is_refused (g.S.System.outside c.args.by.now.system.now) _ _ (refusal_words c.refusal.result ∷ []) c.print_refusal.result c.print_refusal.ensures.made)
