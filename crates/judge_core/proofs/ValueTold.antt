-- The distance that the value tells is told, whatever the positions after quiet moves have.
use Rattle.std.proofs.Common.{◌≡◌, ◌∙◌, sym, ap, refl, nat_le, Bool, true, false, ◌&&◌, ◌||◌, cond, Some, None, Result, Ok, Err}
use Rattle.board_core.specs.declared.parts.Parts.{Parts}
use Rattle.board_core.specs.Position.{IsPosition}
use Rattle.board_core.specs.ComputedMoves.{count_of_men}
use Rattle.table_file.specs.declared.outcome.Outcome.{Outcome}
use Rattle.judge_core.specs.declared.distance.Distance.{Distance}
use Rattle.judge_core.specs.declared.distance.Distance.TheVariants.{Draw as NoDistance}
use Rattle.judge_core.specs.declared.fault.ValueFault.{ValueFault}
use Rattle.judge_core.specs.declared.found.CaptureSearch.{CaptureSearch}
use Rattle.judge_core.specs.declared.wdl.Wdl.{Wdl}
use Rattle.judge_core.specs.declared.wdl.Wdl.TheVariants.{Draw}
use Rattle.judge_core.specs.Values.{Reading, is_same, outcome_of}
use Rattle.judge_core.specs.Tables.{Tables}
use Rattle.judge_core.specs.Probing.{searched_where, searched_by, wdl_where, wdl_of, worth, worth_in}
use Rattle.judge_core.specs.Distances.{Reach, is_won, is_by_capture, pawns_reach_where, unless_reached, by_own_table, by_moves, by_outcome, dtz_from_search, zeroing, towards, dtz_by}
use Rattle.judge_core.specs.Determined.{IsDetermined, IsByCapture, IsByPawnMove}
use Rattle.judge_core.specs.Inside.Determined.{extreme, extreme_searched, pawns_reach_in_both, is_reached, zeroing_distance, distance_in_both, or_agreed_distance}
use Rattle.judge_core.proofs.Rule.{where_meets_rule}
use Rattle.judge_core.proofs.Completed.{extreme-completes, is_same-refl}
use Rattle.judge_core.proofs.PawnWins.{reached_in_both, reached_in_set}
use Rattle.judge_core.proofs.Kept.{strict_searched}
use Rattle.judge_core.specs.Determined.{IsDistanceByValue, OfDraw, OfCapture, OfPawnMove}
use Rattle.judge_core.proofs.Zeroing.{IsMany}

-- ---- what both are worth

-- the value in a completion is that of what is searched there
from_worth : (own : Parts → Reading) (p : Parts) (v : Wdl) → IsPosition p → IsMany p → wdl_where own p ≡ Ok v → (w : CaptureSearch) × (searched_where own (wdl_where own) p ≡ Ok w) × (worth w ≡ v)
from_worth own p v position many e = step (searched_where own (wdl_where own) p) refl (sym (where_meets_rule own p position ∙ rw many refl) ∙ e)
  where
    step : (r : Result CaptureSearch ValueFault) → searched_where own (wdl_where own) p ≡ r → worth_in r ≡ Ok v → (w : CaptureSearch) × (searched_where own (wdl_where own) p ≡ Ok w) × (worth w ≡ v)
    step (Ok w) er e = (w, er, cc)
    step (Err fault) er e = absurd (cc)

-- where a value is determined, a distance that is told only by it is told
module _ (tables : Tables) (p : Parts) (position : IsPosition p) (v : Wdl) (is : IsDetermined tables p v) (d : Distance)
    (by_both : (a b : CaptureSearch) → worth a ≡ v → worth b ≡ v → extreme_searched tables true p ≡ Ok a → extreme_searched tables false p ≡ Ok b → zeroing_distance tables p a b (outcome_of v) ≡ Some d)
    (by_one : (w : CaptureSearch) (reach : Parts → Reach) (x : Distance) → worth w ≡ v → extreme_searched tables true p ≡ Ok w → by_outcome tables reach p w (outcome_of v) ≡ Ok x → x ≡ d)
    (few : nat_le (count_of_men p) 2 ≡ true → d ≡ NoDistance) (reach : Parts → Reach) where
  strict_is : (x : Distance) → dtz_from_search tables reach p (searched_by tables (wdl_of tables) p) ≡ Ok x → IsMany p → x ≡ d
  strict_is x e many = step (searched_by tables (wdl_of tables) p) refl e
    where
      step : (r : Result CaptureSearch ValueFault) → searched_by tables (wdl_of tables) p ≡ r → dtz_from_search tables reach p r ≡ Ok x → x ≡ d
      step (Ok w) er e =
          let there = strict_searched tables (extreme tables true) (extreme-completes tables true) p position w er in
          let found = from_worth (extreme tables true) p v position many (is (extreme tables true) (extreme-completes tables true)) in
          let one : Ok found.0 ≡ Ok w = sym found.1 ∙ there in
          let same : found.0 ≡ w = cc in
          let worth_is : worth w ≡ v = ap worth (sym same) ∙ found.2 in
          by_one w reach x worth_is there (sym (ap (by_outcome tables reach p w) (ap outcome_of worth_is)) ∙ e)
      step (Err fault) er e = absurd (cc)

  told_many : (r : Reach) → dtz_from_search tables reach p (searched_by tables (wdl_of tables) p) ≡ r → IsMany p → or_agreed_distance r (distance_in_both tables p) ≡ Ok d
  told_many (Ok x) er many = ap (λ (y : Distance). Ok y) (strict_is x er many)
  told_many (Err fault) er many =
      let a = from_worth (extreme tables true) p v position many (is (extreme tables true) (extreme-completes tables true)) in
      let b = from_worth (extreme tables false) p v position many (is (extreme tables false) (extreme-completes tables false)) in
      let same = ap (λ (x : Wdl). is_same x (worth b.0)) (a.2 ∙ sym b.2) ∙ is_same-refl (worth b.0) in
      let some = by_both a.0 b.0 a.2 b.2 a.1 b.1 in
      rw (a.1, b.1, same, a.2, some) refl

  told_by_value : or_agreed_distance (dtz_by tables reach p) (distance_in_both tables p) ≡ Ok d
  told_by_value = step (nat_le (count_of_men p) 2) refl
    where
      step : (t : Bool) → nat_le (count_of_men p) 2 ≡ t → or_agreed_distance (cond t (Ok NoDistance) (dtz_from_search tables reach p (searched_by tables (wdl_of tables) p))) (distance_in_both tables p) ≡ Ok d
      step true et = ap (λ (x : Distance). Ok x) (sym (few et))
      step false et = told_many (dtz_from_search tables reach p (searched_by tables (wdl_of tables) p)) refl et

one_ok : (d x : Distance) (r : Reach) → r ≡ Ok d → r ≡ Ok x → x ≡ d
one_ok d x r ed ex = (let both : Ok d ≡ Ok x = sym ed ∙ ex in cc)

-- bare kings are a draw
no_outcome : (tables : Tables) (p : Parts) → IsPosition p → (v : Wdl) (outcome : Outcome) → IsDetermined tables p v → outcome_of v ≡ Some outcome → nat_le (count_of_men p) 2 ≡ true → towards outcome (zeroing outcome) ≡ NoDistance
no_outcome tables p position v outcome is eo few =
    let bare : Ok v ≡ Ok Draw = sym (is (extreme tables true) (extreme-completes tables true)) ∙ where_meets_rule (extreme tables true) p position ∙ rw few refl in
    let same : v ≡ Draw = cc in
    let none : None ≡ Some outcome = ap outcome_of (sym same) ∙ eo in
    absurd (cc)

-- a pawn move that brings the value about in every completion does so in the set, if that tells a distance
by_pawn_in_set : (tables : Tables) (p : Parts) → IsPosition p → (v : Wdl) → IsByPawnMove tables p v → (outcome : Outcome) → is_won outcome ≡ true
    → (w : CaptureSearch) (reach : Parts → Reach) (x : Distance) → worth w ≡ v → by_outcome tables reach p w (Some outcome) ≡ Ok x → x ≡ towards outcome (zeroing outcome)
unfolding by_moves
by_pawn_in_set tables p position v by outcome won w reach x ew e = step (is_by_capture w) (rw ew at e)
  where
    by_steps : (r : Result Bool ValueFault) → pawns_reach_where (wdl_of tables) p v ≡ r → unless_reached r outcome (by_own_table tables reach p outcome) ≡ Ok x → x ≡ towards outcome (zeroing outcome)
    by_steps (Ok true) er e = one_ok (towards outcome (zeroing outcome)) x (Ok (towards outcome (zeroing outcome))) refl e
    by_steps (Ok false) er e = absurd (reached_in_set tables p position v by er)
    by_steps (Err fault) er e = absurd (cc)

    step : (t : Bool) → cond t (Ok (towards outcome (zeroing outcome))) (by_moves tables reach p v outcome) ≡ Ok x → x ≡ towards outcome (zeroing outcome)
    step true e = one_ok (towards outcome (zeroing outcome)) x (Ok (towards outcome (zeroing outcome))) refl e
    step false e = by_steps (pawns_reach_where (wdl_of tables) p v) refl (rw won at e)

module _ (tables : Tables) (p : Parts) (position : IsPosition p) (reach : Parts → Reach) where
  of_draw : IsDetermined tables p Draw → or_agreed_distance (dtz_by tables reach p) (distance_in_both tables p) ≡ Ok NoDistance
  of_draw is = told_by_value tables p position Draw is NoDistance (λ a b ea eb xa xb. refl) (λ w reach x ew xw e. one_ok NoDistance x (Ok NoDistance) refl e) (λ f. refl) reach

  of_capture : (v : Wdl) (outcome : Outcome) → IsDetermined tables p v → outcome_of v ≡ Some outcome → IsByCapture tables p → or_agreed_distance (dtz_by tables reach p) (distance_in_both tables p) ≡ Ok (towards outcome (zeroing outcome))
  of_capture v outcome is eo captures =
      told_by_value tables p position v is (towards outcome (zeroing outcome))
      (λ a b ea eb xa xb. rw (eo, captures (extreme tables true) a (extreme-completes tables true) xa, captures (extreme tables false) b (extreme-completes tables false) xb) refl)
      (λ w reach x ew xw e. one_ok (towards outcome (zeroing outcome)) x (Ok (towards outcome (zeroing outcome))) refl (rw (eo, captures (extreme tables true) w (extreme-completes tables true) xw) at e))
      (no_outcome tables p position v outcome is eo) reach

  of_pawn_move : (v : Wdl) (outcome : Outcome) → IsDetermined tables p v → outcome_of v ≡ Some outcome → is_won outcome ≡ true → IsByPawnMove tables p v
      → or_agreed_distance (dtz_by tables reach p) (distance_in_both tables p) ≡ Ok (towards outcome (zeroing outcome))
  of_pawn_move v outcome is eo won by =
      told_by_value tables p position v is (towards outcome (zeroing outcome)) in_both_so (λ w reach x ew xw e. by_pawn_in_set tables p position v by outcome won w reach x ew (rw eo at e)) (no_outcome tables p position v outcome is eo) reach
    where
      either : (x y : Bool) → y ≡ true → cond (x || y) (Some (towards outcome (zeroing outcome))) None ≡ Some (towards outcome (zeroing outcome))
      either true y e = refl
      either false y e = rw e refl

      in_both_so : (a b : CaptureSearch) → worth a ≡ v → worth b ≡ v → extreme_searched tables true p ≡ Ok a → extreme_searched tables false p ≡ Ok b → zeroing_distance tables p a b (outcome_of v) ≡ Some (towards outcome (zeroing outcome))
      in_both_so a b ea eb xa xb =
          let reached : is_reached (pawns_reach_in_both tables p (worth a)) ≡ true = ap (λ (u : Wdl). is_reached (pawns_reach_in_both tables p u)) ea ∙ ap is_reached (reached_in_both tables p position v by) in
          rw eo (either (is_by_capture a && is_by_capture b) (is_won outcome && is_reached (pawns_reach_in_both tables p (worth a))) (rw (won, reached) refl))

  pub by_value_told : (d : Distance) → IsDistanceByValue tables p d → or_agreed_distance (dtz_by tables reach p) (distance_in_both tables p) ≡ Ok d
  by_value_told d (OfDraw is e) = of_draw is ∙ ap (λ (x : Distance). Ok x) (sym e)
  by_value_told d (OfCapture v outcome is eo captures e) = of_capture v outcome is eo captures ∙ ap (λ (x : Distance). Ok x) (sym e)
  by_value_told d (OfPawnMove v outcome is eo won by e) = of_pawn_move v outcome is eo won by ∙ ap (λ (x : Distance). Ok x) (sym e)
