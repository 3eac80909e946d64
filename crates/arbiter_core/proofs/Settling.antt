-- An arbiter stays settled.
use Rattle.std.proofs.Common.{◌≡◌, ℕ, ◌+◌, ◌-◌, ◌<◌, ◌≤◌, true, List, [], ◌∷◌, ◌++◌, length, length-append, take, drop, Option, Some, None, sym, ap, ◌∙◌, subst, arith, take-append-drop}
use Rattle.std.specs.Prelude.{is_some}
use Rattle.std.specs.Option.{some_prefix}
use Rattle.std.proofs.lemmas.List.{length-take-le}
use Rattle.board_core.specs.declared.parts.Parts.{Parts}
use Rattle.board_core.specs.declared.moves.Move.{Move}
use Rattle.board_core.specs.ComputedMoves.{position_after}
use Rattle.board_core.specs.declared.verdict.Verdict.{Verdict}
use Rattle.judge_core.specs.Games.{Rules, verdict_after}
use Rattle.move_msg.specs.Numbers.{most_moves}
use Rattle.judge_core.specs.Standings.{Reached, IsAt}
use Rattle.arbiter_core.specs.Recording.{Recorded, ReorderBuffer, reaches, last_ply, advance}
use Rattle.arbiter_core.specs.Answering.{still_waits, nothing_waits, waits_too}
use Rattle.arbiter_core.specs.Views.{IsNear}
use Rattle.arbiter_core.proofs.Reach.{reach_within, reach_front, last_reached}
use Rattle.arbiter_core.proofs.Waiting.{each_nothing, each_still, each_too}
use Rattle.arbiter_core.proofs.PlanLaws.{next_position, reach_one}

-- after a legal move the next ply is reached
pub reach_next : (r : Rules) (moves : List Move) (m : Move) (s : Reached) (q : Parts) (v : Option Verdict) → IsAt r moves s → v ≡ verdict_after r moves → v ≡ None → reaches r moves (length moves) ≡ true → position_after s.position m ≡ Some q → reaches r (moves ++ m ∷ []) (length moves + 1) ≡ true
reach_next r moves m s q v at ruled none reached legal =
    let size : length (moves ++ m ∷ []) ≡ length moves + 1 = simp length-append (omega arith) in
    subst (λ k. reaches r (moves ++ m ∷ []) k ≡ true) size (reach_one r moves m reached (sym ruled ∙ none) (ap is_some (next_position r moves s m at ∙ legal)))

pub record Advanced (r : Rules) (moves : List Move) (verdict : Option Verdict) : Type 0 where
  pub ruled : verdict ≡ verdict_after r moves
  pub reached : reaches r moves (length moves) ≡ true

pub advanced : (r : Rules) (before : List Move) (m : Move) (window : ReorderBuffer) (moves : List Move) (verdict : Option Verdict) → record { moves = moves; verdict = verdict } ≡ advance r before m window → Advanced r moves verdict
advanced r before m window moves verdict e =
    let all : List Move = before ++ m ∷ some_prefix window in
    let n : ℕ = last_ply r all in
    let ms : moves ≡ take n all = ap (λ (x : Recorded). x.moves) e in
    let v : verdict ≡ verdict_after r (take n all) = ap (λ (x : Recorded). x.verdict) e in
    let reach = last_reached r all in
    let size : length (take n all) ≡ n = length-take-le n all (reach_within r all n reach) in
    let parts : reaches r (take n all ++ drop n all) n ≡ true = subst (λ (xs : List Move). reaches r xs n ≡ true) (sym (take-append-drop n all)) reach in
    let front : reaches r (take n all) n ≡ true = reach_front r (take n all) (drop n all) n (omega (arith, size)) parts in
    record {
      ruled = v ∙ ap (verdict_after r) (sym ms);
      reached = subst (λ (xs : List Move). reaches r xs (length xs) ≡ true) (sym ms) (subst (λ k. reaches r (take n all) k ≡ true) (sym size) front);
    }

pub near_still : (window : ReorderBuffer) (k n : ℕ) → k ≤ n → IsNear window (k + 1) → IsNear (still_waits window (n - k)) (n + 1)
near_still window k n l h =
    let e : k + 1 + (n - k) ≡ n + 1 = omega arith in
    subst (λ at. IsNear (still_waits window (n - k)) at) e (each_still (λ n w. n < most_moves) window (k + 1) (n - k) h)

pub near_nothing : (at : ℕ) → IsNear nothing_waits at
near_nothing at = each_nothing (λ n w. n < most_moves) at

pub near_too : (window : ReorderBuffer) (k number : ℕ) (m : Move) → k < number → number < most_moves → IsNear window (k + 1) → IsNear (waits_too window (number - (k + 1)) m) (k + 1)
near_too window k number m l u h = let e : k + 1 + (number - (k + 1)) < most_moves = omega arith in each_too (λ n w. n < most_moves) window (k + 1) (number - (k + 1)) m e h
