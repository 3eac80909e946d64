-- The men of a material in an order in which its tables may take them: their groups, and the groups' sizes.
use Rattle.std.specs.Prelude.{ℕ, List}
use Rattle.place_index.specs.Shape.{layout, groups_of, group_sizes}
use Rattle.place_index.specs.declared.group.Group.{Group}

pub record Arranged : Type 0 where
  pub material : ℕ
  pub pieces : List ℕ

abbrev pub arranged : ℕ → List ℕ → Arranged
arranged material pieces = record { material = material; pieces = pieces }

-- the groups are the same for all orders and files
abbrev pub groups_in : Arranged → List Group
groups_in a = groups_of (layout a.material a.pieces 0 0 0)

-- the sizes are the same for all orders
abbrev pub sizes_in : Arranged → ℕ → List ℕ
sizes_in a file = group_sizes (layout a.material a.pieces 0 0 file)
