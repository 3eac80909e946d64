-- File names of tables: the name of the men, and an ending for the kind of table.
use Rattle.std.specs.Prelude.{◌≡◌, ◌<◌, ℕ, zero, suc, Bool, true, false, List, [], ◌∷◌, ◌++◌, Result, Ok, Err, ◌==◌, ◌&&◌, if◌then◌else◌}
use Rattle.place_index.specs.Material.{name_at}
use Rattle.table_file.specs.declared.fault.TableFault.{TableFault}
use Rattle.table_file.specs.declared.fault.TableFault.TheVariants.{BadName}
use Rattle.table_file.specs.declared.kind.TableKind.{TableKind}
use Rattle.table_file.specs.declared.kind.TableKind.TheVariants.{Wdl, Dtz}

-- whether two lists are the same
abbrev pub equal : List ℕ → List ℕ → Bool
equal [] [] = true
equal [] (y ∷ ys) = false
equal (x ∷ xs) [] = false
equal (x ∷ xs) (y ∷ ys) = x == y && equal xs ys

-- .rtbw, .rtbz
abbrev pub ending : TableKind → List ℕ
ending Wdl = 46 ∷ 114 ∷ 116 ∷ 98 ∷ 119 ∷ []
ending Dtz = 46 ∷ 114 ∷ 116 ∷ 98 ∷ 122 ∷ []

-- the name of the file of a kind for a material
unfoldable pub file_name : TableKind → ℕ → List ℕ
file_name kind material = name_at material ++ ending kind

-- The kind and the material with this file name, among the first so many materials.
unfoldable pub title_among : ℕ → List ℕ → Result (TableKind × ℕ) TableFault
title_among zero name = Err BadName
title_among (suc material) name =
    if equal name (file_name Wdl material) then Ok (Wdl, material)
    else if equal name (file_name Dtz material) then Ok (Dtz, material)
    else title_among material name

unfoldable pub title_of : List ℕ → Result (TableKind × ℕ) TableFault
title_of name = title_among 145 name

-- Two tables have two file names.
abbrev pub NamesDiffer : Type 0
NamesDiffer = (kind other : TableKind) (j k : ℕ) → j < 145 → k < 145 → file_name kind j ≡ file_name other k → (kind ≡ other) × (j ≡ k)
