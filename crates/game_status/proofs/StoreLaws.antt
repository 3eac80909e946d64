-- Names among others.
use Rattle.std.proofs.Common.{Global, ◌≡◌, ◌<◌, ◌∙◌, ◌↔◌, ℕ, zero, suc, Bool, true, List, [], ◌∷◌, length, map, get_or, refl, sym, string_bytes, arith, IsTrue, inl, inr}
use Rattle.std.specs.Prelude.{String}
use Rattle.std.specs.List.{Contains, list_any}
use Rattle.std.specs.Str.{bytes_eq}
use Rattle.std.proofs.lemmas.Bool.{cases_Bool}
use Rattle.std.proofs.lemmas.Slice.Eq.{bytes_eq-Decides}

-- ---- names

abbrev has : List ℕ → List (String Global) → Bool
has name = list_any (λ text. bytes_eq (string_bytes text) name)

tells : (names : List (String Global)) (name : List ℕ) → has name names ≡ true → Contains (map string_bytes names) name
tells [] name e = absurd (cc)
tells (n ∷ ns) name e = elim (cases_Bool (bytes_eq (string_bytes n) name)) [
  | inl same ↦ (0, omega arith, (bytes_eq-Decides (string_bytes n) name).0 same)
  | inr other ↦ let there = tells ns name (rw other at e) in (suc there.0, omega (arith, there.1), there.2)
]

told : (names : List (String Global)) (name : List ℕ) (k : ℕ) → k < length (map string_bytes names) → get_or (map string_bytes names) k name ≡ name → has name names ≡ true
told [] name k within at = absurd (omega (arith, within))
told (n ∷ ns) name zero within at = rw ((bytes_eq-Decides (string_bytes n) name).1 at) refl
told (n ∷ ns) name (suc k) within at = elim (cases_Bool (bytes_eq (string_bytes n) name)) [
  | inl same ↦ rw same refl
  | inr other ↦ rw other (told ns name k (omega (arith, within)) at)
]

pub named_among : (names : List (String Global)) (name : List ℕ) (r : Bool) → r ≡ list_any (λ text. bytes_eq (string_bytes text) name) names → IsTrue r ↔ Contains (map string_bytes names) name
named_among names name r is = (λ yes. tells names name (sym is ∙ yes), λ there. is ∙ told names name there.0 there.1 there.2)
