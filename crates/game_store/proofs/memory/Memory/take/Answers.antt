use Rattle.std.proofs.Common.{Some, subst, ap, ◌<◌, option_map}
use Rattle.game_store.specs.declared.memory.Slot.{Slot}
use Rattle.game_store.specs.Slots.{Slots, number_at, Takes}
use Rattle.game_store.proofs.SlotLemmas.{number_here, game_here, most_now, apart_now, no_slot}
use Rattle.game_store.proofs.memory.Memory.take.Goals as goal

pub invariant_of-self : goal.invariant_of-self
invariant_of-self c =
    let old = c.self.inside.slots.entries in
    let new = c.insert.new.self.entries in
    let number = c.args.number in
    let slot : Slot = record { number = number; text = Some (record { count = c.args.entry.count; «record» = c.args.entry.record }) } in
    let put = number_here old new c.args.entry.stamp slot c.in-Ok.ensures.updates.0 in
    let above : c.self.inside.last < number = c.if-number-self.false in (
      apart_now (number_at old) (number_at new) c.args.entry.stamp c.self.inside.last number put above c.self.invariant.1 c.self.invariant.0,
      most_now (number_at old) (number_at new) c.args.entry.stamp c.self.inside.last number put above c.self.invariant.1,
    )

pub returns-in-Ok : goal.returns-in-Ok
returns-in-Ok c =
    let new = c.insert.new.self.entries in
    let entry = c.args.entry in
    let slot : Slot = record { number = c.args.number; text = Some (record { count = entry.count; «record» = entry.record }) } in
    record {
      ok = subst (λ (old : Slots). Takes c.args.number entry old new) c.self.view_is
          (record {
            fresh = ap (option_map (λ (s : Slot). s.number)) (no_slot _ c.if-contains_key.ensures);
            numbers = number_here c.self.inside.slots.entries new entry.stamp slot c.in-Ok.ensures.updates.0;
            games = game_here c.self.inside.slots.entries new entry.stamp slot c.in-Ok.ensures.updates.0;
          });
    }
