use Rattle.std.proofs.Common.{◌∙◌, sym, subst, refl, arith, None, IsSome, get_or}
use Rattle.judge_core.specs.Inside.Kept.{tables_in}
use Rattle.judge_core.specs.Tables.{Holding, table_at}
use Rattle.judge_core.proofs.Slots.{filled, at_slot}
use Rattle.judge_core.proofs.table_slots.TableSlots.add.Goals as goal

pub returns-then-is_some-clause-duplicate : goal.returns-then-is_some-clause-duplicate
returns-then-is_some-clause-duplicate c =
    let is = at_slot _ _ _ _ _ c.slot-slot.ensures.is c.kind.ensures c.material.ensures in
    let some = filled c.self.inside.tables.items c.slot-slot.result c.index.result.now (omega (arith, c.self.invariant.slots, c.slot-slot.ensures.below)) c.index.ensures (sym c.is_some.ensures ∙ c.if-is_some.true) in (
      (λ e. subst (λ (h : Holding). IsSome (table_at h.tables c.args.table.kind c.args.table.material)) c.self.view_is
          (subst (λ k. IsSome (get_or (tables_in c.self.inside.tables.items) k None)) is some)),
      (λ h. refl),
    )
