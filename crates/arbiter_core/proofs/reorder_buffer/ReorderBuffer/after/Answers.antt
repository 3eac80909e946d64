use Rattle.std.proofs.Common.{◌≡◌, ◌+◌, ◌<◌, ◌≤◌, length, None, arith, ⊎_elim, sym, ap, ◌∙◌, refl}
use Rattle.std.proofs.lemmas.Bool.{cases_lt}
use Rattle.std.proofs.lemmas.List.{get_or_past}
use Rattle.arbiter_core.specs.Recording.{ReorderBuffer}
use Rattle.arbiter_core.specs.Answering.{still_waits}
use Rattle.arbiter_core.proofs.PlanLaws.{still_from, none_reads}
use Rattle.arbiter_core.proofs.reorder_buffer.ReorderBuffer.after.Goals as goal

pub returns : goal.returns
returns c =
    let told : length c.self.inside.places ≡ 31 = c.self.invariant in
    still_from c.self.inside.places c.loop-i.places c.args.n told c.loop-i.invariant.size (λ k.
    ⊎_elim (λ (lt : c.args.n + k < c.loop-i.i). c.loop-i.invariant.read k lt)
    (λ (ge : c.loop-i.i ≤ c.args.n + k). c.loop-i.invariant.rest k ge ∙ sym (get_or_past c.self.inside.places (c.args.n + k) None (omega arith)))
    (cases_lt (c.args.n + k) c.loop-i.i))
    ∙ ap (λ (w : ReorderBuffer). still_waits w c.args.n) c.self.view_is

pub loop-i-init : goal.loop-i-init
loop-i-init c = record { size = refl; read = λ k h. absurd (omega arith); rest = λ k h. none_reads 31 k }
