use Rattle.std.proofs.Common.{◌∙◌, ap, refl, arith}
use Rattle.std.proofs.lemmas.List.{get_or_read}
use Rattle.judge_core.specs.Inside.Kept.{table_in}
use Rattle.judge_core.specs.Tables.{Tables}
use Rattle.judge_core.specs.declared.table_slot.TableSlot.TheVariants.{Empty}
use Rattle.judge_core.proofs.Slots.{shared_same, still_kept}
use Rattle.judge_core.proofs.table_slots.TableSlots.share_slot.Goals as goal

pub invariant_of-self : goal.invariant_of-self
invariant_of-self c =
    let read = get_or_read c.self.inside.tables.items c.args.place _ (omega (arith, c.self.invariant.slots, c.requires)) c.index_mut.ensures.value Empty in
    still_kept c.self.inside _ c.args.place c.replace-slot.new.dest c.twice-kept.result.kept c.self.invariant refl (c.twice-kept.ensures.kept ∙ ap table_in (c.replace-slot.ensures.value ∙ read)) refl

pub returns-clause-unchanged : goal.returns-clause-unchanged
returns-clause-unchanged c =
    let read = get_or_read c.self.inside.tables.items c.args.place _ (omega (arith, c.self.invariant.slots, c.requires)) c.index_mut.ensures.value Empty in
    ap (λ (tables : Tables). record { tables = tables; cache = c.self.inside.cache }) (shared_same c.self.inside.tables.items c.args.place c.replace-slot.new.dest c.twice-kept.result.kept (c.twice-kept.ensures.kept ∙ ap table_in (c.replace-slot.ensures.value ∙ read)))
    ∙ c.self.view_is
