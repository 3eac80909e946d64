use Rattle.std.proofs.Common.{◌∙◌, ◌∷◌, [], inl, inr, refl}
use Rattle.line_teller.specs.ToldLines.{refused_memory}
use Rattle.serve_core.proofs.ServeLaws.{all_answered, fault_is_refused, is_lost, no_room, not_out, one_is_refused}
use Rattle.serve_core.proofs.task.serve_at.Goals as goal

pub returns-in-Err-clause-made : goal.returns-in-Err-clause-made
returns-in-Err-clause-made g c =
    let ready = c.in-Ok.ensures in
    not_out (g.S.System.outside c.args.by.now.system.now) _ _ _ _ c.as_str.result.now ready.0 c.in-Err.fault (c.as_str.ensures.value ∙ ready.1) c.in-Err.ensures.made

pub returns-in-Err-clause-replied : goal.returns-in-Err-clause-replied
returns-in-Err-clause-replied g c = inr (refl, fault_is_refused (g.S.System.outside c.args.by.now.system.now) _ c.in-Err.fault refl)

pub returns-in-Ok-answer_requests-clause-made : goal.returns-in-Ok-answer_requests-clause-made
returns-in-Ok-answer_requests-clause-made g c =
    let ready = c.in-Ok.ensures in
    all_answered (g.S.System.outside c.args.by.now.system.now) _ _ _ _ _ _ c.as_str.result.now ready.0 c.in-Ok-put_out.field-0 c.requires.named (c.as_str.ensures.value ∙ ready.1) c.in-Ok-put_out.ensures.made c.answer_requests.ensures.made

pub returns-clause-made : goal.returns-clause-made
returns-clause-made g c =
    let ready = c.in-Ok.ensures in
    is_lost (g.S.System.outside c.args.by.now.system.now) _ _ _ _ _ _ _ c.as_str.result.now ready.0 c.in-Ok-put_out.field-0 _ _ c.requires.named (c.as_str.ensures.value ∙ ready.1) c.in-Ok-put_out.ensures.made c.answer_requests.ensures.made c.print_lost.ensures.made

pub returns-in-Ok-answer_requests-clause-replied : goal.returns-in-Ok-answer_requests-clause-replied
returns-in-Ok-answer_requests-clause-replied g c = inl c.answer_requests.ensures.replied

pub returns-clause-replied : goal.returns-clause-replied
returns-clause-replied g c = inl c.answer_requests.ensures.replied

pub returns-in_default-clause-made : goal.returns-in_default-clause-made
returns-in_default-clause-made g c = no_room (g.S.System.outside c.args.by.now.system.now) _ _ _ _ c.print_refusal.result c.print_refusal.ensures.made

pub returns-in_default-clause-replied : goal.returns-in_default-clause-replied
returns-in_default-clause-replied g c = inr (refl, one_is_refused (g.S.System.outside c.args.by.now.system.now) _ _ (refused_memory ∷ []) c.print_refusal.result c.print_refusal.ensures.made)
