-- What a shape keeps beside its arrangement.
use Rattle.std.specs.Prelude.{◌≡◌, ◌<◌, ◌≤◌}
use Rattle.place_index.specs.Shape.{Layout, layout, HasGoodOrder, factors_of, size_of, greatest_size}
use Rattle.place_index.specs.declared.shape.Shape.TheInside.{Inside}

abbrev pub layout_of : Inside → Layout
layout_of a = layout a.arrangement.material a.arrangement.pieces a.order a.second a.file

pub record AreFields (a : Inside) : Type 0 where
  pub file : a.file < 4
  pub order : HasGoodOrder (layout_of a)
  pub factors : a.factors.items ≡ factors_of (layout_of a)
  pub size : a.size ≡ size_of (layout_of a)
  pub some : 1 ≤ a.size
  pub fits : a.size ≤ greatest_size
