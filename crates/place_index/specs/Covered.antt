-- Which positions have a table (Syzygy tables): those of three to five men.
use Rattle.std.specs.Prelude.{◌<◌, ◌≤◌, ◌⊎◌, ℕ}
use Rattle.board_core.specs.declared.parts.Parts.{Parts}
use Rattle.board_core.specs.Position.{IsPosition}
use Rattle.board_core.specs.ComputedMoves.{count_of_men}
use Rattle.place_index.specs.Placed.{men_on, IsMaterialOf}

-- the material of the position is that of a table, in its colours or with colours exchanged
abbrev pub HasMaterial : Parts → Type 0
HasMaterial p = (key : ℕ) × (key < 145) × IsMaterialOf key (men_on p.men)

-- Each position of three to five men has the material of a table, and no other position has.
abbrev pub FewMenHaveTables : Type 0
FewMenHaveTables =
    ((p : Parts) → IsPosition p → 3 ≤ count_of_men p → count_of_men p ≤ 5 → HasMaterial p)
    × ((p : Parts) → IsPosition p → (count_of_men p ≤ 2) ⊎ (5 < count_of_men p) → HasMaterial p → ⊥)
