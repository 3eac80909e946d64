use Rattle.std.proofs.Common.{◌∙◌, ap, inl, inr, map}
use Rattle.std.proofs.lemmas.Result.{IfOk-weaker}
use Rattle.json_lines.specs.Told.{played_in}
use Rattle.json_lines.proofs.told.ordered.Goals as goal

pub returns-in-Ok-Some-clause-moves : goal.returns-in-Ok-Some-clause-moves
returns-in-Ok-Some-clause-moves c =
    let found = rw c.in-Ok-Some.field-0-is at c.in-Ok-Some.ensures.moves in
    IfOk-weaker c.played.result _ _ (λ ms e. inr (found.0, (c.in-Ok-Some.roots.items, found.1, e ∙ ap (map played_in) c.deref.ensures.value))) c.played.ensures

pub returns-in-Ok-None-clause-moves : goal.returns-in-Ok-None-clause-moves
returns-in-Ok-None-clause-moves c = IfOk-weaker c.legal.result _ _ (λ ms e. inl (rw c.in-Ok-None.field-0-is at c.in-Ok-None.ensures.moves, e)) c.legal.ensures.computed
