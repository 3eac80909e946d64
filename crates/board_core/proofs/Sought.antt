-- Moves that are sought between two squares.
use Rattle.std.proofs.Common.{◌∙◌, sym, subst, ℕ, ◌≡◌, ◌<◌, ◌+◌, Option, arith, inl, inr}
use Rattle.std.proofs.lemmas.Bool.{cases_lt}
use Rattle.board_core.specs.declared.piece.Promotion.{Promotion}
use Rattle.board_core.specs.declared.parts.Parts.{Parts}
use Rattle.board_core.specs.declared.mobility.Sought.{Sought}
use Rattle.board_core.specs.Moves.{IsLegal, promotion_place}
use Rattle.board_core.specs.ComputedMoves.{promotion_at}
use Rattle.board_core.specs.Inside.Search.{IsSought}
use Rattle.board_core.proofs.Listing.{make}
use Rattle.board_core.proofs.NextCapture.{at_place}

-- where neither a move with an earlier promotion is one of them nor the one at this place, none up to there is
pub no_more : (p : Parts) (sought : Sought) (from to k : ℕ) (o : Option Promotion) → o ≡ promotion_at k → (IsLegal p (make from to o) → IsSought sought p (make from to o) → ⊥)
    → ((o : Option Promotion) → IsLegal p (make from to o) → IsSought sought p (make from to o) → promotion_place o < k → ⊥)
    → (o : Option Promotion) → IsLegal p (make from to o) → IsSought sought p (make from to o) → promotion_place o < k + 1 → ⊥
no_more p sought from to k o at not none x l w lt = elim (cases_lt (promotion_place x) k) [
  | inl before ↦ none x l w before
  | inr ge ↦
      let e : x ≡ o = at_place x k (omega arith) ∙ sym at in
      not (subst (λ y. IsLegal p (make from to y)) e l) (subst (λ y. IsSought sought p (make from to y)) e w)
]
