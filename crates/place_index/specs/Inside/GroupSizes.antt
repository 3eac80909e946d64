-- What the sizes of the groups of a table keep.
use Rattle.std.specs.Prelude.{◌≤◌, length}
use Rattle.place_index.specs.Shape.{greatest_size, product}
use Rattle.place_index.specs.declared.sizes.Sizes.TheInside.{Inside}

pub record AreSizes (a : Inside) : Type 0 where
  pub few : length a.sizes.items ≤ 5
  pub some : 1 ≤ product a.sizes.items
  pub fits : product a.sizes.items ≤ greatest_size
