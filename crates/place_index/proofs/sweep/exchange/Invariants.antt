use Rattle.std.proofs.Common.{◌≡◌, ◌++◌, take, drop}
use Rattle.place_index.specs.Men.{exchanged}
use Rattle.place_index.proofs.sweep.exchange.Given as goal

abbrev pub invariant-loop-man : goal.invariant-loop-man
invariant-loop-man l = l.men ≡ exchanged (take l.man-index l.initial.men) ++ drop l.man-index l.initial.men
