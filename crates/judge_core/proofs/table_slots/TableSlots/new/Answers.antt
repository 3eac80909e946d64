use Rattle.std.proofs.Common.{◌∙◌, ap, ◌++◌, ◌∷◌, [], None, arith}
use Rattle.std.proofs.lemmas.List.{map-append, replicate-append-replicate}
use Rattle.judge_core.specs.Inside.Kept.{table_in, tables_in}
use Rattle.judge_core.specs.declared.table_slot.TableSlot.TheVariants.{Empty}
use Rattle.judge_core.proofs.Slots.{new_kept}
use Rattle.judge_core.proofs.table_slots.TableSlots.new.Goals as goal

pub loop-preserved : goal.loop-preserved
loop-preserved c =
    ap tables_in c.in_ok-push.ensures.items ∙ map-append table_in c.loop.tables.items (Empty ∷ []) ∙ ap (λ xs. xs ++ None ∷ []) c.loop.invariant ∙ replicate-append-replicate _ 1 None

pub invariant_of-result : goal.invariant_of-result
invariant_of-result c = new_kept _ c.loop.counter (omega arith) c.loop.invariant c.requires.some c.requires.most
