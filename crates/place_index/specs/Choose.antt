-- Subsets of a set: how many of them have k elements, and their numbers.
use Rattle.std.specs.Prelude.{◌≡◌, ◌≢◌, ◌↔◌, ℕ, zero, suc, ◌+◌, ◌<◌, List, [], ◌∷◌, ◌++◌, map, length, count_by, ◌==◌, Contains}
use Rattle.std.specs.List.{AllPairs}

-- all parts of the first n numbers, each as a falling list: those without the last number, and those with it
unfoldable pub parts : ℕ → List (List ℕ)
parts zero = [] ∷ []
parts (suc n) = parts n ++ map (λ part. n ∷ part) (parts n)

-- the number of k-element parts of n things
unfoldable pub choose : ℕ → ℕ → ℕ
choose n k = count_by (λ part. length part == k) (parts n)

-- numbers below n, the greatest first
abbrev pub IsFallingBelow : ℕ → List ℕ → Type 0
IsFallingBelow n [] = Unit {0}
IsFallingBelow n (s ∷ lower) = (s < n) × IsFallingBelow s lower

-- Each part is listed, nothing else is, and none twice.
abbrev pub PartsAreListed : Type 0
PartsAreListed = (n : ℕ) → ((part : List ℕ) → Contains (parts n) part ↔ IsFallingBelow n part) × AllPairs (λ one other. one ≢ other) (parts n)

-- Of the k-element parts of n + 1 things, some have the last thing and k - 1 others, and some don't have it.
abbrev pub PascalsRule : Type 0
PascalsRule = ((n : ℕ) → choose n 0 ≡ 1) × ((k : ℕ) → choose 0 (suc k) ≡ 0) × ((n k : ℕ) → choose (suc n) (suc k) ≡ choose n k + choose n (suc k))

-- the number of a set: each number with i lower ones in the set adds the choices of i + 1 from what lies below it
abbrev pub set_number : List ℕ → ℕ
set_number [] = 0
set_number (s ∷ lower) = choose s (suc (length lower)) + set_number lower

-- the second list has the greater number where the two first differ
abbrev pub IsLater : List ℕ → List ℕ → Type 0
IsLater xs ys = (front : List ℕ) × (x : ℕ) × (y : ℕ) × (low : List ℕ) × (high : List ℕ) × (xs ≡ front ++ x ∷ low) × (ys ≡ front ++ y ∷ high) × (x < y)

-- Sets of equal size, each as a falling list. The number is below the count of sets. A later set, by the greatest number in
-- which the two differ, has a greater number. A number is that of one set.
abbrev pub SetsAreNumbered : Type 0
SetsAreNumbered =
    ((n : ℕ) (xs : List ℕ) → IsFallingBelow n xs → set_number xs < choose n (length xs))
    × ((n : ℕ) (xs ys : List ℕ) → IsFallingBelow n xs → IsFallingBelow n ys → length xs ≡ length ys → IsLater xs ys → set_number xs < set_number ys)
    × ((n : ℕ) (xs ys : List ℕ) → IsFallingBelow n xs → IsFallingBelow n ys → length xs ≡ length ys → set_number xs ≡ set_number ys → xs ≡ ys)
