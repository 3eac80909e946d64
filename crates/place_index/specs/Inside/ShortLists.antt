-- Short lists in arrays: up to three numbers, the greatest first, and the squares of up to five men.
use Rattle.std.specs.Prelude.{◌≡◌, ℕ, ◌-◌, ◌≤◌, List, [], ◌∷◌, drop, replicate, length, slice_index, cond, nat_lt}
use Rattle.place_index.specs.declared.short_lists.UpToThree.TheInside.{Inside}
use Rattle.place_index.specs.declared.short_lists.Earlier.TheInside.{Inside as EarlierInside}

-- up to three numbers, and 0 in the first two places where none stands
pub record IsUpToThree (f : Inside) : Type 0 where
  pub few : f.count ≤ 3
  pub size : length f.numbers ≡ 3
  pub first : f.count ≤ 0 → slice_index f.numbers 0 ≡ 0
  pub second : f.count ≤ 1 → slice_index f.numbers 1 ≡ 0

-- the first two numbers, with a further one before the first of them that is lower
abbrev pub with_number : List ℕ → ℕ → List ℕ
with_number xs x =
    cond (nat_lt (slice_index xs 0) x) (x ∷ slice_index xs 0 ∷ slice_index xs 1 ∷ [])
    (cond (nat_lt (slice_index xs 1) x) (slice_index xs 0 ∷ x ∷ slice_index xs 1 ∷ []) (slice_index xs 0 ∷ slice_index xs 1 ∷ x ∷ []))

-- up to five squares in eight places, and 64 past them
pub record IsPadded (e : EarlierInside) : Type 0 where
  pub few : e.men ≤ 5
  pub size : length e.squares ≡ 8
  pub past : drop e.men e.squares ≡ replicate (8 - e.men) 64

-- one number more in a falling list
unfoldable pub inserted : ℕ → List ℕ → List ℕ
inserted s [] = s ∷ []
inserted s (x ∷ xs) = cond (nat_lt x s) (s ∷ x ∷ xs) (x ∷ inserted s xs)
