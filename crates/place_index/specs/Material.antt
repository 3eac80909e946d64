-- Material of a table: the men of both sides, and the table's name.
use Rattle.std.specs.Prelude.{◌≡◌, ℕ, zero, suc, ◌+◌, ◌*◌, ◌<◌, ◌≤◌, ◌⊎◌, List, [], ◌∷◌, ◌++◌, map, filter, flat_map, length, Bool, nat_le, slice_index_or, slice_index, count_by, ◌==◌}

-- The men of the first and of the second side beside the kings, by their codes: queen 5, rook 4, bishop 3, knight 2, pawn 1.
pub record Men : Type 0 where
  pub first : List ℕ
  pub second : List ℕ

-- codes in the order of the letters Q R B N P, none above `most`
abbrev pub IsInOrder : ℕ → List ℕ → Type 0
IsInOrder most [] = Unit {0}
IsInOrder most (a ∷ rest) = (1 ≤ a) × (a ≤ most) × IsInOrder a rest

-- The men of a table of three to five men: KXvK, KXYvK, KXvKY, KXYZvK, KXYvKZ. The side with more men comes first, and at
-- equal numbers the side whose letter is earlier.
pub record IsTable (m : Men) : Type 0 where
  pub first : IsInOrder 5 m.first
  pub second : IsInOrder 5 m.second
  pub one : 1 ≤ length m.first
  pub more : length m.second ≤ length m.first
  pub few : length m.first + length m.second ≤ 3
  pub earlier : length m.first ≡ length m.second → slice_index m.second 0 ≤ slice_index m.first 0

-- ---- the names

abbrev pub letter : ℕ → ℕ
letter zero = 0
letter (suc zero) = 80
letter (suc (suc zero)) = 78
letter (suc (suc (suc zero))) = 66
letter (suc (suc (suc (suc zero)))) = 82
letter (suc (suc (suc (suc (suc n))))) = 81

-- K, the first side's letters, vK, the second side's letters
abbrev pub name_of : Men → List ℕ
name_of m = 75 ∷ map letter m.first ++ 118 ∷ 75 ∷ map letter m.second

-- ---- the 145 tables in the order of their keys

abbrev pub codes : List ℕ
codes = 5 ∷ 4 ∷ 3 ∷ 2 ∷ 1 ∷ []

abbrev pub ones : List (List ℕ)
ones = map (λ a. a ∷ []) codes

abbrev pub twos : List (List ℕ)
twos = flat_map (λ a. map (λ b. a ∷ b ∷ []) (filter (λ b. nat_le b a) codes)) codes

abbrev pub threes : List (List ℕ)
threes = flat_map (λ a. flat_map (λ b. map (λ c. a ∷ b ∷ c ∷ []) (filter (λ c. nat_le c b) codes)) (filter (λ b. nat_le b a) codes)) codes

abbrev pub alone : List ℕ → Men
alone a = record { first = a; second = [] }

abbrev pub against : List (List ℕ) → List (List ℕ) → List Men
against xs ys = flat_map (λ a. map (λ b. record { first = a; second = b }) ys) xs

abbrev pub is_ordered : Men → Bool
is_ordered m = nat_le (slice_index m.second 0) (slice_index m.first 0)

-- KXvK, KXYvK, KXvKY, KXYZvK, KXYvKZ
abbrev pub tables : List Men
tables = map alone ones ++ map alone twos ++ filter is_ordered (against ones ones) ++ map alone threes ++ against twos ones

-- the men of the table with this key
unfoldable pub men_of : ℕ → Men
men_of key = slice_index_or tables key (alone [])

abbrev pub name_at : ℕ → List ℕ
name_at key = name_of (men_of key)

-- The keys 0 to 144 stand for the tables one to one, and the names for the keys.
abbrev pub TablesAreNumbered : Type 0
TablesAreNumbered =
    ((k : ℕ) → k < 145 → IsTable (men_of k))
    × ((m : Men) → IsTable m → (k : ℕ) × (k < 145) × (men_of k ≡ m))
    × ((j k : ℕ) → j < 145 → k < 145 → name_at j ≡ name_at k → j ≡ k)

-- ---- properties of the men

-- how often a code stands in a list
unfoldable pub count_of : List ℕ → ℕ → ℕ
count_of xs c = count_by (λ x. x == c) xs

-- the codes of all men as a table file writes them: 1 to 6 for the first side's P N B R Q K, 9 to 14 for the second side's
unfoldable pub pieces_of : ℕ → List ℕ
pieces_of key = 6 ∷ 14 ∷ (men_of key).first ++ map (λ c. 8 + c) (men_of key).second

-- one of these codes
abbrev pub IsPieceCode : ℕ → Type 0
IsPieceCode c = ((1 ≤ c) × (c ≤ 6)) ⊎ ((9 ≤ c) × (c ≤ 14))

-- pawns of the first and of the second side
abbrev pub white_pawns : ℕ → ℕ
white_pawns key = count_of (pieces_of key) 1

abbrev pub black_pawns : ℕ → ℕ
black_pawns key = count_of (pieces_of key) 9

-- ---- tallies

-- how often each code from the first on stands in a list, as so many digits to the base 16, the first one lowest
unfoldable pub digits : ℕ → ℕ → List ℕ → ℕ
digits zero first xs = 0
digits (suc n) first xs = count_of xs first + 16 * digits n (suc first) xs

-- how often each of the codes 0 to 15 stands in a list
abbrev pub tally_of : List ℕ → ℕ
tally_of xs = digits 16 0 xs
