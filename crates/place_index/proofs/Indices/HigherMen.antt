-- Men on higher squares change no number.
use Rattle.std.proofs.Common.{◌≡◌, ℕ, zero, suc, ◌<◌, List, [], ◌∷◌, ◌++◌, length, take, get_or, refl, arith}
use Rattle.place_index.specs.Choose.{IsFallingBelow}
use Rattle.place_index.specs.Others.{taken, free_number}
use Rattle.place_index.proofs.Counting.FreeSets.{before_none}
use Rattle.place_index.proofs.Counting.MappedSets.{falling_at}
use Rattle.place_index.proofs.Indices.Numbering.{taken_append, free_same}

none_taken : (n : ℕ) (xs : List ℕ) (i : ℕ) → IsFallingBelow n xs → i < length xs → taken (take i xs) (get_or xs i 0) ≡ 0
unfolding taken
none_taken n [] i f lt = absurd (omega (arith, lt))
none_taken n (x ∷ xs) zero f lt = refl
none_taken n (x ∷ xs) (suc i) f lt =
    omega (arith, before_none x (get_or xs i 0) (omega (arith, falling_at x xs i f.1 (omega (arith, lt)))), none_taken x xs i f.1 (omega (arith, lt)))

pub free_after : (first : ℕ) (earlier xs : List ℕ) (i : ℕ) → IsFallingBelow 64 xs → i < length xs → free_number first (earlier ++ take i xs) (get_or xs i 0) ≡ free_number first earlier (get_or xs i 0)
free_after first earlier xs i f lt =
    free_same first (earlier ++ take i xs) earlier (get_or xs i 0) (omega (arith, taken_append earlier (take i xs) (get_or xs i 0), none_taken 64 xs i f lt))
