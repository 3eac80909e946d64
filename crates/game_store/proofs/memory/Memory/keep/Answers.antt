use Rattle.std.proofs.Common.{Some, subst, sym, ◌≡◌, ◌∙◌, ℕ, List}
use Rattle.game_store.specs.declared.memory.Slot.{Slot}
use Rattle.system_io.specs.Records.{with_entry}
use Rattle.game_store.specs.Slots.{Slots, number_at, game_at}
use Rattle.game_store.proofs.SlotLemmas.{number_here, game_here, number_kept}
use Rattle.game_store.proofs.memory.Memory.keep.Goals as goal

same : (c : goal.Joined-before) → (stamp : List ℕ) → number_at c.insert.new.self.entries stamp ≡ number_at c.self.inside.slots.entries stamp
same c =
    let slot : Slot = record { number = c.in-Some.number; text = Some (record { count = c.args.entry.count; «record» = c.args.entry.record }) } in
    let old = c.self.inside.slots.entries in
    let new = c.insert.new.self.entries in
    number_kept (number_at old) (number_at new) c.args.entry.stamp c.in-Some.number (number_here old new c.args.entry.stamp slot c.in-Ok.ensures.updates.0)
    (subst (λ (es : Slots). number_at es c.args.entry.stamp ≡ Some c.in-Some.number) (sym c.self.view_is) (sym c.in-Some.ensures.value))

pub invariant_of-self : goal.invariant_of-self
invariant_of-self c = (
  λ a b n x y. c.self.invariant.0 a b n (sym (same c a) ∙ x) (sym (same c b) ∙ y),
  λ a n x. c.self.invariant.1 a n (sym (same c a) ∙ x),
)

pub returns-clause-numbers : goal.returns-clause-numbers
returns-clause-numbers c = subst (λ (old : Slots). (stamp : List ℕ) → number_at c.insert.new.self.entries stamp ≡ number_at old stamp) c.self.view_is (same c)

pub returns-clause-kept : goal.returns-clause-kept
returns-clause-kept c =
    let slot : Slot = record { number = c.in-Some.number; text = Some (record { count = c.args.entry.count; «record» = c.args.entry.record }) } in
    let new = c.insert.new.self.entries in
    subst (λ (old : Slots). (stamp : List ℕ) → game_at new stamp ≡ with_entry (game_at old) c.args.entry stamp) c.self.view_is
    (game_here c.self.inside.slots.entries new c.args.entry.stamp slot c.in-Ok.ensures.updates.0)
