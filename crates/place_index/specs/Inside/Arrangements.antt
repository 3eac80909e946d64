-- What an arrangement keeps.
use Rattle.std.specs.Prelude.{◌≡◌, ◌<◌}
use Rattle.place_index.specs.Shape.{HasGoodPieces}
use Rattle.place_index.specs.Inside.Arranged.{Arranged, arranged, groups_in}
use Rattle.place_index.specs.declared.arrangement.Arrangement.TheInside.{Inside}

abbrev pub arranged_men : Inside → Arranged
arranged_men a = arranged a.material a.pieces.items

pub record IsArranged (a : Inside) : Type 0 where
  pub material : a.material < 145
  pub pieces : HasGoodPieces a.material a.pieces.items
  pub groups : a.groups.items ≡ groups_in (arranged_men a)
