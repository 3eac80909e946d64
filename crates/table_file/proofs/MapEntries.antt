-- Entries of two bytes.
use Rattle.std.proofs.Common.{◌≡◌, ℕ, zero, suc, ◌+◌, ◌*◌, ◌/◌, ◌<◌, ◌≤◌, List, [], ◌∷◌, length, get_or, drop, Some, None, refl, ap, ◌∙◌, arith}
use Rattle.std.proofs.lemmas.List.{get_or-drop}
use Rattle.std.specs.Prelude.{slice_get}
use Rattle.pair_dict.specs.Reading.{words}

pub word_there : (bytes : List ℕ) (i : ℕ) → i < length bytes / 2 → Some (get_or bytes (2 * i) 0 + 256 * get_or bytes (2 * i + 1) 0) ≡ slice_get (words bytes) i
word_there [] i lt = absurd (omega arith)
word_there (a ∷ []) i lt = absurd (omega arith)
word_there (a ∷ b ∷ rest) zero lt = refl
word_there (a ∷ b ∷ rest) (suc i) lt =
    let e : 2 * suc i ≡ suc (suc (2 * i)) = omega arith in
    let f : suc (suc (2 * i)) + 1 ≡ suc (suc (2 * i + 1)) = omega arith in
    rw (e, f) (word_there rest i (omega arith))

pub word_past : (bytes : List ℕ) (i : ℕ) → length bytes / 2 ≤ i → None ≡ slice_get (words bytes) i
word_past [] i le = refl
word_past (a ∷ []) i le = refl
word_past (a ∷ b ∷ rest) zero le = absurd (omega arith)
word_past (a ∷ b ∷ rest) (suc i) le = word_past rest i (omega arith)

-- a byte behind a place
pub byte_behind : (bytes : List ℕ) (at i : ℕ) → get_or (drop at bytes) i 0 ≡ get_or bytes (at + i) 0
byte_behind bytes at i = get_or-drop at bytes i 0

pub byte_here : (bytes : List ℕ) (at : ℕ) → get_or (drop at bytes) 0 0 ≡ get_or bytes at 0
byte_here bytes at = get_or-drop at bytes 0 0 ∙ ap (λ i. get_or bytes i 0) (omega arith)
