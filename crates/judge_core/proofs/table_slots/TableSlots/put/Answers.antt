use Rattle.std.proofs.Common.{◌∙◌, ap, refl, Some, set}
use Rattle.std.proofs.lemmas.List.{map-set}
use Rattle.judge_core.specs.Inside.Kept.{table_in}
use Rattle.judge_core.specs.Tables.{Tables, Holding}
use Rattle.judge_core.specs.declared.table_slot.TableSlot.TheVariants.{Own}
use Rattle.judge_core.proofs.Slots.{more_kept}
use Rattle.judge_core.proofs.table_slots.TableSlots.put.Goals as goal

pub invariant_of-self : goal.invariant_of-self
invariant_of-self c = more_kept c.self.inside _ c.args.table c.args.own c.self.invariant c.requires.own c.requires.below c.requires.known refl refl

pub returns : goal.returns
returns c =
    ap (λ (tables : Tables). record { tables = tables; cache = c.self.inside.cache }) (map-set table_in c.self.inside.tables.items c.args.own (Own c.args.table))
    ∙ ap (λ (h : Holding). record { tables = set h.tables c.args.own (Some c.args.table); cache = h.cache }) c.self.view_is
