-- Lowest symbols and bases, length by length.
use Rattle.std.proofs.Common.{◌≡◌, ℕ, zero, suc, ◌+◌, ◌-◌, ◌*◌, ◌/◌, ◌<◌, ◌≤◌, true, false, List, [], ◌∷◌, length, get_or, drop, refl, inl, inr, arith}
use Rattle.std.proofs.Common.{replicate}
use Rattle.std.proofs.lemmas.List.{get_or-replicate, get_or_past, length-replicate, length-drop, drop_more}
use Rattle.std.proofs.lemmas.Bool.{leb-true, le-leb, lt-leb, and_parts, cases_lt}
use Rattle.pair_dict.specs.Codes.{bases}
use Rattle.pair_dict.specs.Reading.{words, falls}

pub length-words : (bytes : List ℕ) → length (words bytes) ≡ length bytes / 2
length-words [] = refl
length-words (a ∷ []) = refl
length-words (a ∷ b ∷ rest) = omega (arith, length-words rest)

pub words_at : (bytes : List ℕ) (i : ℕ) → i < length (words bytes) → get_or (words bytes) i 0 ≡ get_or bytes (2 * i) 0 + 256 * get_or bytes (2 * i + 1) 0
words_at [] i lt = absurd (omega arith)
words_at (a ∷ []) i lt = absurd (omega arith)
words_at (a ∷ b ∷ rest) zero lt = refl
words_at (a ∷ b ∷ rest) (suc i) lt =
    let e : 2 * suc i ≡ suc (suc (2 * i)) = omega arith in
    let f : suc (suc (2 * i)) + 1 ≡ suc (suc (2 * i + 1)) = omega arith in
    rw (e, f) (words_at rest i (omega arith))

short_falls : (xs : List ℕ) → length xs ≤ 1 → falls xs ≡ true
short_falls [] le = refl
short_falls (x ∷ []) le = refl
short_falls (x ∷ y ∷ rest) le = absurd (omega arith)

pub falls_end : (xs : List ℕ) (i : ℕ) → length xs ≤ i → 1 ≤ i → falls (drop (i - 1) xs) ≡ true
falls_end xs i le some = short_falls (drop (i - 1) xs) (omega (arith, length-drop (i - 1) xs))

two_at : (xs : List ℕ) (i : ℕ) → 1 ≤ i → i < length xs → drop (i - 1) xs ≡ get_or xs (i - 1) 0 ∷ drop i xs
two_at xs i some lt =
    let e : i - 1 + 1 ≡ i = omega arith in
    rw e at (drop_more xs (i - 1) 0 (omega arith))

pub falls_on : (xs : List ℕ) (i : ℕ) → 1 ≤ i → i < length xs → get_or xs i 0 ≤ get_or xs (i - 1) 0 → falls (drop (i - 1) xs) ≡ falls (drop i xs)
falls_on xs i some lt le = rw (two_at xs i some lt, drop_more xs i 0 lt, le-leb (get_or xs i 0) (get_or xs (i - 1) 0) le) refl

pub falls_not : (xs : List ℕ) (i : ℕ) → 1 ≤ i → i < length xs → get_or xs (i - 1) 0 < get_or xs i 0 → falls (drop (i - 1) xs) ≡ false
falls_not xs i some lt more = rw (two_at xs i some lt, drop_more xs i 0 lt, lt-leb (get_or xs i 0) (get_or xs (i - 1) 0) more) refl

-- one after the other the numbers don't grow
pub falls_at : (xs : List ℕ) (i : ℕ) → falls xs ≡ true → i + 1 < length xs → get_or xs (i + 1) 0 ≤ get_or xs i 0
falls_at [] i f lt = absurd (omega arith)
falls_at (x ∷ []) i f lt = absurd (omega arith)
falls_at (x ∷ y ∷ rest) zero f lt = leb-true y x (and_parts _ _ f).0
falls_at (x ∷ y ∷ rest) (suc i) f lt =
    let e : suc i + 1 ≡ suc (i + 1) = omega arith in
    rw e (falls_at (y ∷ rest) i (and_parts _ _ f).1 (omega arith))

pub length-bases : (xs : List ℕ) → length (bases xs) ≡ length xs
length-bases [] = refl
length-bases (x ∷ []) = refl
length-bases (x ∷ y ∷ rest) = omega (arith, length-bases (y ∷ rest))

pub base_last : (xs : List ℕ) (i : ℕ) → length xs ≤ i + 1 → get_or (bases xs) i 0 ≡ 0
base_last [] i le = refl
base_last (x ∷ []) zero le = refl
base_last (x ∷ []) (suc i) le = refl
base_last (x ∷ y ∷ rest) zero le = absurd (omega arith)
base_last (x ∷ y ∷ rest) (suc i) le = base_last (y ∷ rest) i (omega arith)

pub base_step : (xs : List ℕ) (i : ℕ) → i + 1 < length xs → get_or (bases xs) i 0 ≡ ((get_or (bases xs) (i + 1) 0 + get_or xs i 0) - get_or xs (i + 1) 0) / 2
base_step [] i lt = absurd (omega arith)
base_step (x ∷ []) i lt = absurd (omega arith)
base_step (x ∷ y ∷ rest) zero lt = refl
base_step (x ∷ y ∷ rest) (suc i) lt =
    let e : suc i + 1 ≡ suc (i + 1) = omega arith in
    rw e (base_step (y ∷ rest) i (omega arith))

pub zeros : (n k : ℕ) → get_or (replicate n zero) k zero ≡ zero
zeros n k =
    elim (cases_lt k n) [
      | inl lt ↦ get_or-replicate n k 0 0 lt
      | inr le ↦ get_or_past (replicate n 0) k 0 (omega (arith, length-replicate {A = ℕ} n 0))
    ]
