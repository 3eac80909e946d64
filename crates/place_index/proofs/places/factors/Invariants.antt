use Rattle.std.proofs.Common.{◌≡◌, map, take}
use Rattle.place_index.specs.Shape.{factor_at}
use Rattle.place_index.proofs.places.factors.Given as goal

abbrev pub invariant-loop-place : goal.invariant-loop-place
invariant-loop-place l = l.factors.items ≡ map (factor_at l.places l.sizes) (take l.place-index l.places)
