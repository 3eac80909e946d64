-- Two leading kings: their number among the pairs after all mirrorings (Syzygy index, groups of two kings).
use Rattle.std.specs.Prelude.{◌≡◌, ℕ, ◌+◌, ◌*◌, ◌/◌, ◌%◌, ◌<◌, ◌≤◌, Bool, cond, nat_lt, ◌==◌, ◌&&◌, ◌||◌, not, IsTrue, List, [], ◌∷◌, slice_index}
use Rattle.place_index.specs.Square.{file, rank, on_diagonal}
use Rattle.place_index.specs.Counting.{count_before}
use Rattle.place_index.specs.Choose.{IsLater}
use Rattle.place_index.specs.Three.{triangle, triangle_number}

abbrev pub far : ℕ → ℕ → Bool
far a b = nat_lt (a + 1) b || nat_lt (b + 1) a

-- neither on one square nor on touching ones
abbrev pub kings_apart : ℕ → ℕ → Bool
kings_apart a b = far (file a) (file b) || far (rank a) (rank b)

-- Two kings after the turning: the first in the triangle and, if it is on the diagonal, the second not above it.
pub record AreTurnedKings (a b : ℕ) : Type 0 where
  pub board0 : a < 64
  pub board1 : b < 64
  pub left : file a < 4
  pub under0 : rank a ≤ file a
  pub under1 : file a ≡ rank a → rank b ≤ file b
  pub apart : IsTrue (kings_apart a b)

-- 1 where both are on the diagonal, else 0
abbrev pub both_on : ℕ → ℕ → ℕ
both_on a b = cond (on_diagonal a && on_diagonal b) 1 0

-- the order of pairs: those not both on the diagonal first, then by the triangle number of the first, then by the square of
-- the second
abbrev pub kings_order : ℕ → ℕ → List ℕ
kings_order a b = both_on a b ∷ triangle_number a ∷ b ∷ []

-- a pair's place in this order among all pairs of a triangle's square and any square
abbrev pub kings_place : ℕ → ℕ → ℕ
kings_place a b = (both_on a b * 10 + triangle_number a) * 64 + b

abbrev pub kings_test : ℕ → ℕ → ℕ → Bool
kings_test a b both = kings_apart a b && (not (on_diagonal a) || not (nat_lt (file b) (rank b))) && (both == both_on a b)

-- whether two turned kings have this place
abbrev pub is_kings_place : ℕ → Bool
is_kings_place k = kings_test (slice_index triangle (k / 64 % 10)) (k % 64) (k / 640)

-- the pairs, and how many of them come before one
unfoldable pub kings_size : ℕ
kings_size = count_before is_kings_place 1280

abbrev pub kings_number : ℕ → ℕ → ℕ
kings_number a b = count_before is_kings_place (kings_place a b)

-- Below the size; a later pair has a greater number; and a number is that of one pair.
abbrev pub KingsAreNumbered : Type 0
KingsAreNumbered =
    ((a b : ℕ) → AreTurnedKings a b → kings_number a b < kings_size)
    × ((a b d e : ℕ) → AreTurnedKings a b → AreTurnedKings d e → IsLater (kings_order a b) (kings_order d e) → kings_number a b < kings_number d e)
    × ((a b d e : ℕ) → AreTurnedKings a b → AreTurnedKings d e → kings_number a b ≡ kings_number d e → (a ≡ d) × (b ≡ e))
