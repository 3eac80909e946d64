use Rattle.std.proofs.Common.{◌≡◌, take}
use Rattle.judge_core.specs.Inside.Kept.{tables_in}
use Rattle.judge_core.proofs.table_slots.TableSlots.share.Given as goal

-- those before this place are shared
abbrev pub invariant-loop-place : goal.invariant-loop-place
invariant-loop-place l = (tables_in l.tables.items ≡ take l.place l.fn.self.tables) × (l.self ≡ l.fn.self)
