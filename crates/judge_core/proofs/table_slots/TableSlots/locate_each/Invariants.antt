use Rattle.std.proofs.Common.{◌≡◌, map, take}
use Rattle.std.specs.Prelude.{All}
use Rattle.judge_core.specs.Inside.Placing.{IsOwnPlace}
use Rattle.judge_core.proofs.table_slots.TableSlots.locate_each.Given as goal

-- those before this place are located
abbrev pub invariant-loop-probe : goal.invariant-loop-probe
invariant-loop-probe l = (map (λ it. it.probe.now) l.located.items ≡ take l.probe-index l.probes) × All (λ it. IsOwnPlace l.self.tables it.probe.now it.own) l.located.items
