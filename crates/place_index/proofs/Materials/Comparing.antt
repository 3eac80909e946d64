-- What a comparison of two codes told, and a code read from a slice.
use Rattle.std.proofs.Common.{◌≡◌, ◌≢◌, ℕ, ◌<◌, Bool, true, false, eqb, List, length, get_or, slice_index, sym, ap, ◌∙◌, inl, inr}
use Rattle.std.specs.Prelude.{not}
use Rattle.std.proofs.lemmas.Bool.{cases_eq, eq-eqb, ne_eqb, eqb-true, false≢true}
use Rattle.std.proofs.lemmas.List.{get_or_default}

pub equal : (a b : ℕ) (t : Bool) → t ≡ eqb a b → t ≡ true → a ≡ b
equal a b t is e = eqb-true a b (sym is ∙ e)

pub unequal : (a b : ℕ) (t : Bool) → t ≡ eqb a b → t ≡ false → a ≢ b
unequal a b t is ne e = false≢true (sym ne ∙ is ∙ eq-eqb a b e)

pub differs : (a b : ℕ) (t : Bool) → t ≡ not (eqb a b) → t ≡ true → a ≢ b
differs a b t is ne e = false≢true (sym (sym ne ∙ is ∙ ap not (eq-eqb a b e)))

pub same : (a b : ℕ) (t : Bool) → t ≡ not (eqb a b) → t ≡ false → a ≡ b
same a b t is e =
    elim (cases_eq a b) [
      | inl one ↦ one
      | inr ne ↦ absurd (false≢true (sym e ∙ is ∙ ap not (ne_eqb a b ne)))
    ]

pub read : (xs : List ℕ) (i x : ℕ) → x ≡ get_or xs i x → i < length xs → x ≡ slice_index xs i
read xs i x is lt = is ∙ get_or_default xs i x 0 lt
