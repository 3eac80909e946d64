use Rattle.std.proofs.Common.{◌≡◌, take}
use Rattle.place_index.specs.Index.{numbers_of, sum_of_products}
use Rattle.place_index.specs.Shape.{factors_of}
use Rattle.place_index.specs.Inside.TurnedMen.{AreBefore}
use Rattle.place_index.proofs.indexing.sum_of_groups.Given as goal

abbrev pub invariant-loop-place : goal.invariant-loop-place
invariant-loop-place l = record {
  before : AreBefore l.turned l.place l.earlier;
  sum : l.sum ≡ sum_of_products (take l.place (numbers_of l.turned.shape l.turned.men)) (factors_of l.turned.shape);
}
