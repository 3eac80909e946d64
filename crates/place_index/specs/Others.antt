-- Groups of equal men after the leading group (Syzygy index, other groups).
use Rattle.std.specs.Prelude.{◌≡◌, ℕ, ◌+◌, ◌-◌, ◌<◌, ◌≤◌, List, [], ◌∷◌, length, map, cond, ◌==◌}
use Rattle.place_index.specs.Square.{before}
use Rattle.place_index.specs.Choose.{choose, set_number, IsFallingBelow, IsLater}

-- how many of these men stand on lower squares
unfoldable pub taken : List ℕ → ℕ → ℕ
taken [] s = 0
taken (e ∷ earlier) s = before e s + taken earlier s

-- how many of these men stand on the square
unfoldable pub standing : List ℕ → ℕ → ℕ
standing [] s = 0
standing (e ∷ earlier) s = cond (e == s) 1 0 + standing earlier s

-- a square's number among the free ones from the square `first` on
unfoldable pub free_number : ℕ → List ℕ → ℕ → ℕ
free_number first earlier s = s - taken earlier s - first

-- the men of a group on these squares, the highest first
abbrev pub free_set_number : ℕ → List ℕ → List ℕ → ℕ
free_set_number first earlier squares = set_number (map (free_number first earlier) squares)

-- the squares lie from `first` on and before `last`
abbrev pub IsWithin : ℕ → ℕ → List ℕ → Type 0
IsWithin first last [] = Unit {0}
IsWithin first last (s ∷ squares) = (first ≤ s) × (s < last) × IsWithin first last squares

abbrev pub AreFreeSquares : List ℕ → List ℕ → Type 0
AreFreeSquares earlier [] = Unit {0}
AreFreeSquares earlier (s ∷ squares) = (standing earlier s ≡ 0) × AreFreeSquares earlier squares

-- The earlier men stand from `first` on and before `last`, each on a square of its own.
pub record AreEarlier (first last : ℕ) (earlier : List ℕ) : Type 0 where
  pub once : (s : ℕ) → standing earlier s ≤ 1
  pub within : IsWithin first last earlier

-- a set of free squares: from `first` on and before `last`, none of an earlier man
pub record IsFreeSet (first last : ℕ) (earlier squares : List ℕ) : Type 0 where
  pub falling : IsFallingBelow last squares
  pub within : IsWithin first last squares
  pub free : AreFreeSquares earlier squares

-- Below the count of such sets; a later set has a greater number; and a number is that of one set.
abbrev pub FreeSetsAreNumbered : Type 0
FreeSetsAreNumbered =
    (first last : ℕ) (earlier : List ℕ) → AreEarlier first last earlier →
    ((xs : List ℕ) → IsFreeSet first last earlier xs → free_set_number first earlier xs < choose (last - first - length earlier) (length xs))
    × ((xs ys : List ℕ) → IsFreeSet first last earlier xs → IsFreeSet first last earlier ys → length xs ≡ length ys → IsLater xs ys → free_set_number first earlier xs < free_set_number first earlier ys)
    × ((xs ys : List ℕ) → IsFreeSet first last earlier xs → IsFreeSet first last earlier ys → length xs ≡ length ys → free_set_number first earlier xs ≡ free_set_number first earlier ys → xs ≡ ys)
