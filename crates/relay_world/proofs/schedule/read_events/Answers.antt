use Rattle.std.proofs.Common.{rules, ◌≡◌, ◌+◌, ◌∷◌, ◌++◌, [], ℕ, List, length, refl, sym, subst, arith, inl, inr}
use Rattle.fen_text.specs.Cuts.{cut_at}
use Rattle.judge_core.proofs.Rule.{always_err}
use Rattle.relay_world.specs.declared.event.Event.{Event}
use Rattle.relay_world.specs.Texts.{IsBadEvent, IsEventLine}
use Rattle.relay_world.proofs.Reading.{waiting_more, bad_line, all_events, takes_here}
use Rattle.relay_world.proofs.schedule.read_events.Goals as goal

empty_of : (xs : List ℕ) → length xs ≡ 0 → xs ≡ []
empty_of [] e = refl
empty_of (x ∷ xs) e = absurd (omega arith)

pub returns-in_default-2-clause-err : goal.returns-in_default-2-clause-err
returns-in_default-2-clause-err c =
    let never : (e : Event) → IsEventLine c.in-Some.line.now e → ⊥ = rw c.in_default-2.is at c.in_ok-event.ensures.none in
    let n : c.len.result ≡ length c.loop-line.events.items = search rules in
    subst (λ (n : ℕ). IsBadEvent 4 (4 + n) (cut_at 10 c.args.text.now)) (sym n)
    (bad_line c.args.text.now c.loop-line.rest.now c.in-Some.tail.now c.in-Some.line.now c.loop-line.events.items c.loop-line.invariant c.in-Some.ensures.some never)

pub loop-line-preserved : goal.loop-line-preserved
loop-line-preserved c =
    let is : IsEventLine c.in-Some.line.now c.in-Some-2.event = rw c.in-Some-2.is at c.in_ok-event.ensures.some in
    let items : c.push.new.self.items ≡ c.loop-line.events.items ++ c.in-Some-2.event ∷ [] = search rules in
    waiting_more c.args.text.now c.loop-line.rest.now c.in-Some.tail.now c.in-Some.line.now c.loop-line.events.items c.push.new.self.items c.in-Some-2.event c.loop-line.invariant c.in-Some.ensures.some is items

pub returns-then-is_empty-clause-ok : goal.returns-then-is_empty-clause-ok
returns-then-is_empty-clause-ok c =
    let long : length c.loop-line.rest.now ≡ 0 = search rules in
    all_events c.args.text.now c.loop-line.rest.now c.loop-line.events.items c.loop-line.invariant c.in_default.ensures.none (empty_of c.loop-line.rest.now long)

pub returns-in_err-event-clause-memory : goal.returns-in_err-event-clause-memory
returns-in_err-event-clause-memory c =
    always_err c.from_residual.result (takes_here c.args.text.now c.loop-line.rest.now c.in-Some.tail.now c.in-Some.line.now c.loop-line.events.items c.loop-line.invariant c.in-Some.ensures.some (inr c.in_err-event.ensures.memory))

pub returns-in_err-push-clause-memory : goal.returns-in_err-push-clause-memory
returns-in_err-push-clause-memory c =
    let is : IsEventLine c.in-Some.line.now c.in-Some-2.event = rw c.in-Some-2.is at c.in_ok-event.ensures.some in
    always_err c.from_residual-in_err-push.result (takes_here c.args.text.now c.loop-line.rest.now c.in-Some.tail.now c.in-Some.line.now c.loop-line.events.items c.loop-line.invariant c.in-Some.ensures.some (inl (c.in-Some-2.event, is)))
