use Rattle.std.proofs.Common.{◌≡◌, take}
use Rattle.judge_core.specs.Inside.Determined.{value_as, reach_as}
use Rattle.judge_core.proofs.RootList.{listed}
use Rattle.judge_core.proofs.set.Set.root_moves.Given as goal

abbrev pub invariant-loop-m : goal.invariant-loop-m
invariant-loop-m l = (l.found.items ≡ listed (value_as l.ask l.fn.self.tables) (reach_as l.ask l.fn.self.tables) l.position (take l.m-index l.m-items)) × (l.self ≡ l.fn.self)
