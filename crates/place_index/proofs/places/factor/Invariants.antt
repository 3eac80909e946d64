use Rattle.std.proofs.Common.{◌≡◌, ◌*◌, drop}
use Rattle.place_index.specs.Shape.{factor_at}
use Rattle.place_index.proofs.places.factor.Given as goal

abbrev pub invariant-loop-i : goal.invariant-loop-i
invariant-loop-i l = l.factor * factor_at (drop l.i l.places) (drop l.i l.all) l.place ≡ factor_at l.places l.all l.place
