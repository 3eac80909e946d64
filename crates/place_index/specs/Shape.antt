-- Shapes: in which order a table takes its men, their groups and sizes (Syzygy index, groups).
use Rattle.std.specs.Prelude.{◌≡◌, ℕ, zero, suc, ◌+◌, ◌*◌, ◌-◌, ◌<◌, ◌≤◌, ◌⊎◌, List, [], ◌∷◌, ◌++◌, drop, length, map, filter, Bool, true, false, not, nat_lt, ◌==◌, ◌&&◌, ◌||◌, cond, slice_index, Option, Some, None}
use Rattle.std.specs.List.{list_any}
use Rattle.std.specs.List.Sorted.{IsPermutation}
use Rattle.place_index.specs.Material.{white_pawns, black_pawns, pieces_of, count_of}
use Rattle.place_index.specs.Choose.{choose}
use Rattle.place_index.specs.Pawns.{pawns_size}
use Rattle.place_index.specs.Three.{three_size}
use Rattle.place_index.specs.Kings.{kings_size}
use Rattle.place_index.specs.declared.group.Group.{Group}

-- What a table file says of one side to move and one file of the leading pawn.
pub record Layout : Type 0 where
  pub material : ℕ
  pub pieces : List ℕ
  pub order : ℕ
  pub second : ℕ
  pub file : ℕ

abbrev pub layout : ℕ → List ℕ → ℕ → ℕ → ℕ → Layout
layout material pieces order second file = record { material = material; pieces = pieces; order = order; second = second; file = file }

-- ---- the leading colour

abbrev pub has_pawns : ℕ → Bool
has_pawns key = not (white_pawns key + black_pawns key == 0)

abbrev pub both_have_pawns : ℕ → Bool
both_have_pawns key = not (white_pawns key == 0) && not (black_pawns key == 0)

-- whether the second side leads: where both sides have pawns the one with fewer leads, the first at equal numbers; where
-- one side has pawns, that side
abbrev pub black_leads : ℕ → Bool
black_leads key = not (black_pawns key == 0) && (white_pawns key == 0 || nat_lt (black_pawns key) (white_pawns key))

-- the leading pawns' code, and the other pawns'
unfoldable pub lead_code : ℕ → ℕ
lead_code key = cond (black_leads key) 9 1

unfoldable pub other_code : ℕ → ℕ
other_code key = cond (black_leads key) 1 9

unfoldable pub lead_pawns : ℕ → ℕ
lead_pawns key = cond (black_leads key) (black_pawns key) (white_pawns key)

unfoldable pub other_pawns : ℕ → ℕ
other_pawns key = cond (black_leads key) (white_pawns key) (black_pawns key)

-- ---- the leading group

abbrev pub is_king_code : ℕ → Bool
is_king_code c = c == 6 || c == 14

-- some piece other than a king occurs once
unfoldable pub has_unique : ℕ → Bool
has_unique key = list_any (λ c. not (is_king_code c) && count_of (pieces_of key) c == 1) (pieces_of key)

-- how many men lead: the leading pawns, or three, or the two kings
unfoldable pub lead_men : ℕ → ℕ
lead_men key = cond (has_pawns key) (lead_pawns key) (cond (has_unique key) 3 2)

-- ---- which orders of the pieces are taken

-- all pieces between two equal ones are equal to them
abbrev pub IsSideBySide : List ℕ → Type 0
IsSideBySide pieces = (i j k : ℕ) → i ≤ j → j ≤ k → k < length pieces → slice_index pieces i ≡ slice_index pieces k → slice_index pieces j ≡ slice_index pieces k

-- the pieces from one place on and before another one all have this code
abbrev pub AreAll : List ℕ → ℕ → ℕ → ℕ → Type 0
AreAll pieces from to code = (i : ℕ) → from ≤ i → i < to → slice_index pieces i ≡ code

-- the leading pawns first, then the other side's
abbrev pub BeginsByPawns : ℕ → List ℕ → Type 0
BeginsByPawns key pieces = AreAll pieces 0 (lead_pawns key) (lead_code key) × AreAll pieces (lead_pawns key) (lead_pawns key + other_pawns key) (other_code key)

-- the first three each occur once
abbrev pub BeginsByThree : List ℕ → Type 0
BeginsByThree pieces = (i : ℕ) → i < 3 → count_of pieces (slice_index pieces i) ≡ 1

-- the first two are the kings, in either order
abbrev pub BeginsByKings : List ℕ → Type 0
BeginsByKings pieces = ((slice_index pieces 0 ≡ 6) × (slice_index pieces 1 ≡ 14)) ⊎ ((slice_index pieces 0 ≡ 14) × (slice_index pieces 1 ≡ 6))

-- the men that lead come first
pub record BeginsWell (key : ℕ) (pieces : List ℕ) : Type 0 where
  pub pawns : has_pawns key ≡ true → BeginsByPawns key pieces
  pub three : has_pawns key ≡ false → has_unique key ≡ true → BeginsByThree pieces
  pub kings : has_pawns key ≡ false → has_unique key ≡ false → BeginsByKings pieces

pub record HasGoodPieces (key : ℕ) (pieces : List ℕ) : Type 0 where
  pub arrangement : IsPermutation pieces (pieces_of key)
  pub side_by_side : IsSideBySide pieces
  pub begins : BeginsWell key pieces

-- ---- the groups

abbrev pub group : ℕ → ℕ → Group
group code men = record { code = code; men = men }

-- a piece before some runs: it joins a run of its own kind, or begins one
abbrev pub joined_to_groups : ℕ → List Group → List Group
joined_to_groups x [] = group x 1 ∷ []
joined_to_groups x (g ∷ rest) = cond (x == g.code) (group x (g.men + 1) ∷ rest) (group x 1 ∷ g ∷ rest)

-- the runs of equal pieces
unfoldable pub runs : List ℕ → List Group
runs [] = []
runs (x ∷ rest) = joined_to_groups x (runs rest)

-- the groups after the leading one
abbrev pub other_groups : ℕ → List ℕ → List Group
other_groups key pieces = runs (drop (lead_men key) pieces)

-- the leading group, then the runs of equal pieces
abbrev pub groups_of : Layout → List Group
groups_of l = group (slice_index l.pieces 0) (lead_men l.material) ∷ other_groups l.material l.pieces

-- ---- the places of the groups

pub record HasGoodOrder (l : Layout) : Type 0 where
  pub order : l.order < length (groups_of l)
  pub second : both_have_pawns l.material ≡ true → (l.second < length (groups_of l)) × (l.second ≡ l.order → ⊥)

-- the numbers below n, rising
unfoldable pub upto : ℕ → List ℕ
upto zero = []
upto (suc n) = upto n ++ n ∷ []

-- the places that nibbles give: to the leading group, and to the other pawns where there are any
abbrev pub places_given : ℕ → Option ℕ → List ℕ
places_given order (Some second) = order ∷ second ∷ []
places_given order None = order ∷ []

-- the second nibble, which is read where both sides have pawns
abbrev pub second_of : Layout → Option ℕ
second_of l = cond (both_have_pawns l.material) (Some l.second) None

abbrev pub is_free : List ℕ → ℕ → Bool
is_free taken p = not (list_any (λ q. q == p) taken)

-- the place of each group: the rest fill the free places in sequence
unfoldable pub places : List ℕ → ℕ → List ℕ
places taken n = taken ++ filter (is_free taken) (upto n)

abbrev pub places_of : Layout → List ℕ
places_of l = places (places_given l.order (second_of l)) (length (groups_of l))

-- ---- the sizes

abbrev pub is_pawn_code : ℕ → Bool
is_pawn_code c = c == 1 || c == 9

-- how many placements the leading group has
unfoldable pub lead_size : ℕ → ℕ → ℕ
lead_size key file = cond (has_pawns key) (pawns_size file (lead_pawns key - 1)) (cond (has_unique key) three_size kings_size)

-- The sets of free squares for each group in turn. The other pawns have the 48 squares of pawns less those of the leading
-- ones; all others have the squares that the men of earlier groups leave.
unfoldable pub other_sizes : ℕ → ℕ → List Group → List ℕ
other_sizes lead free [] = []
other_sizes lead free (g ∷ rest) = choose (cond (is_pawn_code g.code) (48 - lead) free) g.men ∷ other_sizes lead (free - g.men) rest

abbrev pub group_sizes : Layout → List ℕ
group_sizes l = lead_size l.material l.file ∷ other_sizes (lead_men l.material) (64 - lead_men l.material) (other_groups l.material l.pieces)

unfoldable pub product : List ℕ → ℕ
product [] = 1
product (s ∷ rest) = s * product rest

abbrev pub size_of : Layout → ℕ
size_of l = product (group_sizes l)

-- ---- the factors

-- the product of the sizes of the groups at places before this one
unfoldable pub factor_at : List ℕ → List ℕ → ℕ → ℕ
factor_at [] sizes place = 1
factor_at (p ∷ places) [] place = 1
factor_at (p ∷ places) (s ∷ sizes) place = cond (nat_lt p place) s 1 * factor_at places sizes place

-- the factor of each group
abbrev pub factors_of : Layout → List ℕ
factors_of l = map (factor_at (places_of l) (group_sizes l)) (places_of l)

-- the greatest size of the 145 tables, that of KQRvKB
abbrev pub greatest_size : ℕ
greatest_size = 114675120
