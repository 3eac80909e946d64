-- The names of table files (table format: names of tables): the men of both sides by letters, and how the file ends.
use Rattle.std.specs.Prelude.{◌≡◌, ◌⊎◌, ℕ, ◌+◌, ◌++◌, ◌==◌, ◌&&◌, ◌||◌, cond, nat_le, nat_lt, Bool, true, List, [], ◌∷◌, length, slice_index, codes}

-- the order of a side's men beside the king in a name: queen, rook, bishop, knight, pawn; 5 where a letter is none of these
abbrev pub man_place : ℕ → ℕ
man_place letter =
    cond (letter == 81) 0 (cond (letter == 82) 1 (cond (letter == 66) 2 (cond (letter == 78) 3 (cond (letter == 80) 4 5))))

-- letters of men in that order, none before this place
unfoldable pub are_men_from : ℕ → List ℕ → Bool
are_men_from least [] = true
are_men_from least (letter ∷ others) =
    nat_le least (man_place letter) && (nat_lt (man_place letter) 5 && are_men_from (man_place letter) others)

-- one to three men beside the kings, more of them on the first side, or one each with the earlier letter first
abbrev pub are_paired : List ℕ → List ℕ → Bool
are_paired first second =
    nat_lt 0 (length first) && (nat_le (length first + length second) 3
    && (nat_lt (length second) (length first)
    || (length first == length second && nat_le (man_place (slice_index first 0)) (man_place (slice_index second 0)))))

-- the name of a table of three to five men
pub record IsTableName (name : List ℕ) : Type 0 where
  pub first : List ℕ
  pub second : List ℕ
  pub first_men : are_men_from 0 first ≡ true
  pub second_men : are_men_from 0 second ≡ true
  pub paired : are_paired first second ≡ true
  pub text : name ≡ 75 ∷ first ++ 118 ∷ 75 ∷ second

-- the name of a file: a table's name with the ending of win, draw and loss or of the distance to zeroing
pub record IsFileName (name : List ℕ) : Type 0 where
  pub table : List ℕ
  pub is_table : IsTableName table
  pub ending : (name ≡ table ++ codes ".rtbw") ⊎ (name ≡ table ++ codes ".rtbz")
