use Rattle.std.proofs.Common.{None, refl, subst, arith, ◌<◌}
use Rattle.game_store.specs.Slots.{Slots, number_at, KeepsNumbers, HasSame}
use Rattle.game_store.proofs.SlotLemmas.{number_here, none_here, numbers_stay, most_now, apart_now, no_slot}
use Rattle.game_store.proofs.memory.Memory.add.Goals as goal

pub invariant_of-self : goal.invariant_of-self
invariant_of-self c =
    let old = c.self.inside.slots.entries in
    let new = c.insert.new.self.entries in
    let number = c.in-Some.number in
    let put = number_here old new c.args.stamp.now (record { number = number; text = None }) c.in-Ok.ensures.updates.0 in
    let above : c.self.inside.last < number = omega (arith, c.in-Some.ensures) in (
      apart_now (number_at old) (number_at new) c.args.stamp.now c.self.inside.last number put above c.self.invariant.1 c.self.invariant.0,
      most_now (number_at old) (number_at new) c.args.stamp.now c.self.inside.last number put above c.self.invariant.1,
    )

pub returns-in-Ok-clause-numbers : goal.returns-in-Ok-clause-numbers
returns-in-Ok-clause-numbers c =
    let new = c.insert.new.self.entries in
    subst (λ (old : Slots). KeepsNumbers old new) c.self.view_is
    (numbers_stay c.self.inside.slots.entries new c.args.stamp.now (record { number = c.in-Some.number; text = None }) c.in-Ok.ensures.updates.0 (no_slot _ c.if-contains_key.ensures))

pub returns-in-Ok-clause-same : goal.returns-in-Ok-clause-same
returns-in-Ok-clause-same c =
    let new = c.insert.new.self.entries in
    subst (λ (old : Slots). HasSame old new) c.self.view_is
    (none_here c.self.inside.slots.entries new c.args.stamp.now (record { number = c.in-Some.number; text = None }) c.in-Ok.ensures.updates.0 (no_slot _ c.if-contains_key.ensures) refl)
