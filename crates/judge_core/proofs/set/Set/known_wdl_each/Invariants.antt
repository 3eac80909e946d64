use Rattle.std.proofs.Common.{◌≡◌, map, take}
use Rattle.judge_core.specs.Known.{known_answer}
use Rattle.judge_core.proofs.set.Set.known_wdl_each.Given as goal

-- those before this place are told, and the set is as it was
abbrev pub invariant-loop-i : goal.invariant-loop-i
invariant-loop-i l = (l.values.items ≡ map (known_answer l.fn.self.tables) (take l.i l.positions)) × (l.self ≡ l.fn.self)
