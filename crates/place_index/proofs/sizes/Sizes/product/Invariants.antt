use Rattle.std.proofs.Common.{◌≡◌, ◌*◌, drop}
use Rattle.place_index.specs.Shape.{product}
use Rattle.place_index.proofs.sizes.Sizes.product.Given as goal

abbrev pub invariant-loop-size : goal.invariant-loop-size
invariant-loop-size l = l.product * product (drop l.size-index l.all) ≡ product l.all
