use Rattle.std.proofs.Common.{◌≡◌, ◌≤◌, fold, map, max, take}
use Rattle.judge_core.specs.Inside.Kept.{tables_in}
use Rattle.judge_core.specs.Tables.{men_of_slot}
use Rattle.judge_core.proofs.table_slots.TableSlots.largest.Given as goal

-- the largest of those before this place
abbrev pub invariant-loop-table : goal.invariant-loop-table
invariant-loop-table l = (l.largest ≡ fold max 0 (map men_of_slot (tables_in (take l.table-index l.table-items)))) × (l.largest ≤ 5)
