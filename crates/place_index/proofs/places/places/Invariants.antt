use Rattle.place_index.proofs.Shapes.GroupPlaces.{IsPlaced}
use Rattle.place_index.proofs.places.places.Given as goal

abbrev pub invariant-loop-place : goal.invariant-loop-place
invariant-loop-place l = IsPlaced l.order l.second l.place l.places.items
