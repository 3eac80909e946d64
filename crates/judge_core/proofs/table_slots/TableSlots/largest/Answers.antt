use Rattle.std.proofs.Common.{◌∙◌, ap}
use Rattle.std.proofs.lemmas.List.{take_all}
use Rattle.judge_core.specs.Inside.Kept.{tables_in}
use Rattle.judge_core.specs.Tables.{Holding}
use Rattle.judge_core.proofs.Slots.{largest-is}
use Rattle.judge_core.proofs.table_slots.TableSlots.largest.Goals as goal

pub returns-clause-is : goal.returns-clause-is
returns-clause-is c = largest-is c.args.self.now.tables _ _ _ (ap tables_in c.deref-table-items.ensures.value ∙ ap (λ (h : Holding). h.tables) c.self.view_is) (take_all _ _ c.loop-table-test.false) c.loop-table.invariant.0
