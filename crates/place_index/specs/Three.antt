-- Three leading men: their number among the placements after all mirrorings (Syzygy index, groups of three).
use Rattle.std.specs.Prelude.{◌≡◌, ◌≢◌, ℕ, zero, suc, ◌+◌, ◌*◌, ◌-◌, ◌<◌, ◌≤◌, List, [], ◌∷◌, cond, not, ◌==◌}
use Rattle.std.specs.List.{position_or_len}
use Rattle.place_index.specs.Square.{file, rank, on_diagonal, under_diagonal, before}
use Rattle.place_index.specs.Counting.{count_before}
use Rattle.place_index.specs.Choose.{IsLater}

-- the squares of the triangle, by their numbers: b1 c1 d1 c2 d2 d3, a1 b2 c3 d4
abbrev pub triangle : List ℕ
triangle = 1 ∷ 2 ∷ 3 ∷ 10 ∷ 11 ∷ 19 ∷ 0 ∷ 9 ∷ 18 ∷ 27 ∷ []

unfoldable pub triangle_number : ℕ → ℕ
triangle_number s = position_or_len (λ t. s == t) triangle

-- how many squares below the diagonal come before this one
abbrev pub lower_number : ℕ → ℕ
lower_number s = count_before under_diagonal s

-- Three men on squares of their own after the turning: the first in the triangle, and the first one off the diagonal below it.
pub record IsTurnedThree (s0 s1 s2 : ℕ) : Type 0 where
  pub board0 : s0 < 64
  pub board1 : s1 < 64
  pub board2 : s2 < 64
  pub apart01 : s0 ≢ s1
  pub apart02 : s0 ≢ s2
  pub apart12 : s1 ≢ s2
  pub left : file s0 < 4
  pub low : rank s0 < 4
  pub under0 : rank s0 ≤ file s0
  pub under1 : file s0 ≡ rank s0 → rank s1 ≤ file s1
  pub under2 : file s0 ≡ rank s0 → file s1 ≡ rank s1 → rank s2 ≤ file s2

-- which man is the first off the diagonal, 3 for none
abbrev pub first_off : ℕ → ℕ → ℕ → ℕ
first_off s0 s1 s2 = cond (not (on_diagonal s0)) 0 (cond (not (on_diagonal s1)) 1 (cond (not (on_diagonal s2)) 2 3))

-- Three men, by the first of them off the diagonal. First: the first man on one of 6 squares of the triangle, and any two
-- others. Second: the first on one of 4 squares of the diagonal, the second on one of 28 below it, and any other. Third:
-- the first two among 4 and 7 squares of the diagonal, the third below it. Fourth: all three on the diagonal.
abbrev pub three_size : ℕ
three_size = 6 * 63 * 62 + 4 * 28 * 62 + 4 * 7 * 28 + 4 * 7 * 6

-- the number, by the first man off the diagonal; squares and ranks are counted without those of the men before
unfoldable pub three_at : ℕ → ℕ → ℕ → ℕ → ℕ
three_at zero s0 s1 s2 = (triangle_number s0 * 63 + (s1 - before s0 s1)) * 62 + (s2 - (before s0 s2 + before s1 s2))
three_at (suc zero) s0 s1 s2 = (378 + rank s0 * 28 + lower_number s1) * 62 + (s2 - (before s0 s2 + before s1 s2))
three_at (suc (suc zero)) s0 s1 s2 = 30380 + rank s0 * 196 + (rank s1 - before s0 s1) * 28 + lower_number s2
three_at (suc (suc (suc n))) s0 s1 s2 = 31164 + rank s0 * 42 + (rank s1 - before s0 s1) * 6 + (rank s2 - (before s0 s2 + before s1 s2))

abbrev pub three_number : ℕ → ℕ → ℕ → ℕ
three_number s0 s1 s2 = three_at (first_off s0 s1 s2) s0 s1 s2

-- the order of placements: by the first man off the diagonal, then the triangle number of the first, then the squares of the
-- second and the third
abbrev pub three_order : ℕ → ℕ → ℕ → List ℕ
three_order s0 s1 s2 = first_off s0 s1 s2 ∷ triangle_number s0 ∷ s1 ∷ s2 ∷ []

-- Below the size; a later placement has a greater number; and a number is that of one placement.
abbrev pub ThreesAreNumbered : Type 0
ThreesAreNumbered =
    ((a b c : ℕ) → IsTurnedThree a b c → three_number a b c < three_size)
    × ((a b c d e f : ℕ) → IsTurnedThree a b c → IsTurnedThree d e f → IsLater (three_order a b c) (three_order d e f) → three_number a b c < three_number d e f)
    × ((a b c d e f : ℕ) → IsTurnedThree a b c → IsTurnedThree d e f → three_number a b c ≡ three_number d e f → (a ≡ d) × (b ≡ e) × (c ≡ f))
