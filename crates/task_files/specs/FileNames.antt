-- Files of a folder by their names (this project's own).
use Rattle.std.specs.Prelude.{◌≡◌, ℕ, List, [], ◌∷◌, Option, find, map}
use Rattle.std.specs.Str.{bytes_eq}
use Rattle.std.specs.Ordering.{nat_cmp}
use Rattle.std.specs.Cmp.Lexicographic.{slice_cmp}
use Rattle.std.specs.declared.cmp.Ordering.TheVariants.{Less}
use Rattle.move_msg.specs.Files.{File}

-- the one name comes before the other in the order of bytes
abbrev pub IsNameBefore : List ℕ → List ℕ → Type 0
IsNameBefore a b = slice_cmp nat_cmp a b ≡ Less

-- each name comes after the one before it
abbrev pub AreRisingNames : List (List ℕ) → Type 0
AreRisingNames [] = Unit {0}
AreRisingNames (a ∷ []) = Unit {0}
AreRisingNames (a ∷ b ∷ others) = IsNameBefore a b × AreRisingNames (b ∷ others)

abbrev pub names_of : List File → List (List ℕ)
names_of files = map (λ f. f.name) files

-- the file of this name
abbrev pub file_named : List ℕ → List File → Option File
file_named name files = find (λ f. bytes_eq f.name name) files
