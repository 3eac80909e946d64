use Rattle.std.proofs.Common.{◌≡◌, replicate, None}
use Rattle.judge_core.specs.Inside.Kept.{tables_in}
use Rattle.judge_core.proofs.table_slots.TableSlots.new.Given as goal

abbrev pub invariant-loop : goal.invariant-loop
invariant-loop l = tables_in l.tables.items ≡ replicate l.counter None
