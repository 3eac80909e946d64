-- Names among others.
use Rattle.std.proofs.Common.{◌≡◌, ◌<◌, ◌+◌, ℕ, false, List, length, take, get_or, sym, ◌∙◌, subst, inl, inr}
use Rattle.std.proofs.lemmas.List.{take_more}
use Rattle.std.proofs.lemmas.List.Elements.{Contains-push_cases}
use Rattle.std.proofs.lemmas.Slice.Eq.{bytes_eq-Decides}
use Rattle.std.specs.List.{Contains}
use Rattle.std.specs.Str.{bytes_eq}

pub other_bytes : (a b : List ℕ) → bytes_eq a b ≡ false → a ≡ b → ⊥
other_bytes a b e same = let d = (bytes_eq-Decides a b).1 same in let f = sym e ∙ d in cc

-- a name that is none of the first ones, and not the next
pub lacks_next : (names : List (List ℕ)) (i : ℕ) (name d : List ℕ) → i < length names → (Contains (take i names) name → ⊥) → (get_or names i d ≡ name → ⊥) → Contains (take (i + 1) names) name → ⊥
lacks_next names i name d within none differs h =
    elim (Contains-push_cases (take i names) (get_or names i d) name (subst (λ ns. Contains ns name) (take_more names i d within) h)) [
      | inl before ↦ none before
      | inr same ↦ differs same
    ]
