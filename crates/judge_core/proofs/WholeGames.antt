-- A game followed ply by ply.
use Rattle.std.proofs.Common.{◌≡◌, ◌∙◌, sym, ap, subst, refl, ℕ, ◌+◌, ◌<◌, ◌≤◌, List, [], ◌∷◌, ◌++◌, length, take, get_or, Some, None, IsSome, arith}
use Rattle.std.specs.Option.{option_and_then}
use Rattle.std.proofs.lemmas.List.{take_more, take_all}
use borrow.Author.Count.{below_more}
use Rattle.board_core.specs.declared.moves.Move.{Move}
use Rattle.board_core.specs.ComputedMoves.{position_after}
use Rattle.board_core.specs.declared.verdict.Verdict.{Verdict}
use Rattle.judge_core.specs.Games.{Rules, position_after_all, verdict_after, IsUnruled, IsFirst, IsIllegalAt, IsGoing}
use Rattle.judge_core.specs.Standings.{Reached, IsAt}
use Rattle.judge_core.proofs.Plies.{goes_on}

module _ (r : Rules) (moves : List Move) (k : ℕ) (s : Reached) (at : IsAt r (take k moves) s) (before : IsUnruled r moves k) where
  there : IsSome (position_after_all r.start (take k moves))
  there = let e = at.position in rw e refl

  pub is_first : (v : Verdict) → k ≤ length moves → verdict_after r (take k moves) ≡ Some v → IsFirst r moves k v
  is_first v le is = record { within = le; legal = there; ruled = is; unruled = before }

  pub still_none : verdict_after r (take k moves) ≡ None → IsUnruled r moves (k + 1)
  still_none is = below_more (λ j. verdict_after r (take j moves) ≡ None) k before is

  pub one_on : (m : Move) → k < length moves → m ≡ get_or moves k m → take k moves ++ m ∷ [] ≡ take (k + 1) moves
  one_on m lt is = ap (λ (x : Move). take k moves ++ x ∷ []) is ∙ sym (take_more moves k m lt)

  pub is_illegal : (m : Move) → k < length moves → verdict_after r (take k moves) ≡ None → m ≡ get_or moves k m → position_after s.position m ≡ None → IsIllegalAt r moves k
  is_illegal m lt none is pm = record {
    within = lt;
    legal = there;
    illegal = ap (position_after_all r.start) (sym (one_on m lt is)) ∙ goes_on r.start (take k moves) m ∙ ap (option_and_then (λ x. position_after x m)) at.position ∙ pm;
    unruled = still_none none;
  }

  pub is_going : k ≡ length moves → verdict_after r (take k moves) ≡ None → IsGoing r moves
  is_going le none = record {
    legal = subst (λ (ms : List Move). IsSome (position_after_all r.start ms)) (ap (λ (n : ℕ). take n moves) le ∙ take_all (length moves) moves (omega arith)) there;
    unruled = subst (λ (n : ℕ). IsUnruled r moves (n + 1)) le (still_none none);
  }

module _ (r : Rules) (moves : List Move) (s : Reached) (at : IsAt r moves s) (before : IsUnruled r moves (length moves)) where
  all : take (length moves) moves ≡ moves
  all = take_all (length moves) moves (omega arith)

  at_end : IsAt r (take (length moves) moves) s
  at_end = subst (λ (ms : List Move). IsAt r ms s) (sym all) at

  pub is_first_at_end : (v : Verdict) → verdict_after r moves ≡ Some v → IsFirst r moves (length moves) v
  is_first_at_end v is = is_first r moves (length moves) s at_end before v (omega arith) (ap (verdict_after r) all ∙ is)

  pub is_going_at_end : verdict_after r moves ≡ None → IsGoing r moves
  is_going_at_end is = is_going r moves (length moves) s at_end before refl (ap (verdict_after r) all ∙ is)
