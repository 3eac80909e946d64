use Rattle.std.proofs.Common.{◌≡◌, map, take}
use Rattle.judge_core.specs.Blocks.{AreRight}
use Rattle.judge_core.specs.Tables.{table_value}
use Rattle.judge_core.proofs.table_slots.TableSlots.read_each.Given as goal

-- those before this place are read
abbrev pub invariant-loop-it : goal.invariant-loop-it
invariant-loop-it l = (l.values.items ≡ map (λ it. table_value l.self.tables it.probe.now) (take l.it-index l.located)) × AreRight l.self l.blocks
