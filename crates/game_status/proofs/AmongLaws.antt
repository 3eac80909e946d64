-- A stamp that is none of the first ones.
use Rattle.std.proofs.Common.{◌≡◌, ◌<◌, ◌+◌, ℕ, List, length, take, get_or, inl, inr, subst}
use Rattle.std.specs.List.{Contains}
use Rattle.std.proofs.lemmas.List.{take_more}
use Rattle.std.proofs.lemmas.List.Elements.{Contains-push_cases}

-- and not the next
pub lacks_next : (stamps : List (List ℕ)) (i : ℕ) (stamp d : List ℕ) → i < length stamps → (Contains (take i stamps) stamp → ⊥) → (get_or stamps i d ≡ stamp → ⊥) → Contains (take (i + 1) stamps) stamp → ⊥
lacks_next stamps i stamp d within none differs h =
    elim (Contains-push_cases (take i stamps) (get_or stamps i d) stamp (subst (λ ss. Contains ss stamp) (take_more stamps i d within) h)) [
      | inl before ↦ none before
      | inr same ↦ differs same
    ]
