-- A distance that is told by the two completions between which all others lie is that of a draw, a capture or a pawn move.
use Rattle.std.proofs.Common.{◌≡◌, ◌∙◌, sym, ap, refl, subst, suc, Bool, true, false, ◌&&◌, ◌||◌, cond, List, [], ◌∷◌, Option, Some, None, filter, Result, Ok, Err, arith}
use Rattle.std.specs.List.{list_any, Contains}
use Rattle.std.proofs.lemmas.Bool.{false≢true}
use Rattle.board_core.specs.declared.parts.Parts.{Parts}
use Rattle.board_core.specs.declared.moves.Move.{Move}
use Rattle.board_core.specs.Position.{IsPosition}
use Rattle.board_core.specs.ComputedMoves.{position_after, legal_moves}
use Rattle.table_file.specs.declared.outcome.Outcome.{Outcome}
use Rattle.judge_core.specs.declared.distance.Distance.{Distance}
use Rattle.judge_core.specs.declared.distance.Distance.TheVariants.{Draw as NoDistance}
use Rattle.judge_core.specs.declared.fault.ValueFault.{ValueFault}
use Rattle.judge_core.specs.declared.found.CaptureSearch.{CaptureSearch}
use Rattle.judge_core.specs.declared.wdl.Wdl.{Wdl}
use Rattle.judge_core.specs.declared.wdl.Wdl.TheVariants.{Loss, BlessedLoss, Draw, CursedWin, Win as Best}
use Rattle.judge_core.specs.Values.{Reading, opposite, opposite_reading, is_same, outcome_of}
use Rattle.judge_core.specs.Tables.{Tables}
use Rattle.judge_core.specs.Asked.{asked}
use Rattle.judge_core.specs.Probing.{values_after, wdl_where, worth}
use Rattle.judge_core.specs.Distances.{is_won, is_value, is_pawn_step, is_by_capture, pawns_reach_where, zeroing, towards}
use Rattle.judge_core.specs.Determined.{IsDetermined, IsByCapture, IsByPawnMove}
use Rattle.judge_core.specs.Inside.Determined.{extreme_value, extreme_searched, in_both, value_in_both, pawns_reach_in_both, is_reached, zeroing_distance, agreed_distance}
use Rattle.judge_core.proofs.Rule.{where_meets_rule, still}
use Rattle.judge_core.proofs.Completed.{is_same-true, determined}
use Rattle.judge_core.proofs.Kept.{unless_ok}
use Rattle.judge_core.specs.Determined.{IsDistanceByValue, OfDraw, OfCapture, OfPawnMove}
use Rattle.judge_core.proofs.Completed.{agreed-from}
use Rattle.judge_core.proofs.Zeroing.{all_reached, reached_of, is_reached-true, in_both-ok, opposite-twice, both_reach, searched_between, IsMany}

-- ---- the pawn move

-- a move with this value among those that are asked
pub record IsReachedBy (v : Wdl) (say : Parts → Reading) (p : Parts) (t : Move → Bool) (ms : List Move) : Type 0 where
  pub step : Move
  pub there : Contains ms step
  pub passes : t step ≡ true
  pub next : Parts
  pub leads : position_after p step ≡ Some next
  pub has : is_value v (say next) ≡ true

module _ (v : Wdl) (say : Parts → Reading) (p : Parts) (t : Move → Bool) where
  one_later : (m : Move) (ms : List Move) → IsReachedBy v say p t ms → IsReachedBy v say p t (m ∷ ms)
  one_later m ms r = record {
    step = r.step;
    there = (suc r.there.0, omega (arith, r.there.1), r.there.2);
    passes = r.passes;
    next = r.next;
    leads = r.leads;
    has = r.has;
  }

  pub found_among : (ms : List Move) → list_any (is_value v) (asked say p (filter t ms)) ≡ true → IsReachedBy v say p t ms
  found_among [] e = absurd (false≢true e)
  found_among (m ∷ ms) e = step (found_among ms) (t m) (position_after p m) refl refl e
    where
      step : (list_any (is_value v) (asked say p (filter t ms)) ≡ true → IsReachedBy v say p t ms) → (b : Bool) (o : Option Parts) → t m ≡ b → position_after p m ≡ o → list_any (is_value v) (asked say p (filter t (m ∷ ms))) ≡ true → IsReachedBy v say p t (m ∷ ms)
      step rest false o et eo e = one_later m ms (rest (rw et at e))
      step rest true None et eo e = one_later m ms (rest (rw (et, eo) at e))
      step rest true (Some q) et eo e = here (is_value v (say q)) refl (rw (et, eo) at e)
        where
          here : (b : Bool) → is_value v (say q) ≡ b → (b || list_any (is_value v) (asked say p (filter t ms))) ≡ true → IsReachedBy v say p t (m ∷ ms)
          here true eb e = record { step = m; there = (0, omega arith, refl); passes = et; next = q; leads = eo; has = eb }
          here false eb e = one_later m ms (rest e)

module _ (tables : Tables) (p : Parts) (position : IsPosition p) (v : Wdl) where
  determined_next : (q : Parts) → IsPosition q → is_value v (opposite_reading (value_in_both tables (opposite v) q)) ≡ true → IsDetermined tables q (opposite v)
  unfolding value_in_both
  determined_next q after e = from_turned (in_both (opposite v) (extreme_value tables true q) (extreme_value tables false q)) refl e
    where
      from_turned : (r : Reading) → in_both (opposite v) (extreme_value tables true q) (extreme_value tables false q) ≡ r → is_value v (opposite_reading r) ≡ true → IsDetermined tables q (opposite v)
      from_turned (Err fault) er e = absurd (false≢true e)
      from_turned (Ok z) er e =
          let parts = in_both-ok (opposite v) (extreme_value tables true q) (extreme_value tables false q) z er in
          let ez : z ≡ opposite v = sym (opposite-twice z) ∙ ap opposite (is_same-true (opposite z) v e) in
          let both = parts.4 ez in
          determined tables q (opposite v) after (agreed-from _ _ (opposite v) (parts.2 ∙ ap (λ (x : Wdl). Ok x) both.0) (parts.3 ∙ ap (λ (x : Wdl). Ok x) both.1))

  pub by_pawn_move : pawns_reach_in_both tables p v ≡ Ok true → IsByPawnMove tables p v
  unfolding pawns_reach_where
  by_pawn_move e =
      let parts = unless_ok _ _ true e in
      let any : list_any (is_value v) (values_after (value_in_both tables (opposite v)) p (filter (is_pawn_step p) (legal_moves p))) ≡ true = reached_of _ _ e in
      let say : Parts → Reading = λ q. opposite_reading (value_in_both tables (opposite v) q) in
      let found = found_among v say p (is_pawn_step p) (legal_moves p) any in
      record {
        step = found.step;
        legal = found.there;
        pawn = found.passes;
        next = found.next;
        leads = found.leads;
        value = determined_next found.next (still p found.next found.step position found.leads) found.has;
        whole = λ own completes. (all_reached v say (λ q. opposite_reading (wdl_where own q)) p (is_pawn_step p) (λ m q t a. both_reach tables own completes v q (still p q m position a)) (legal_moves p) parts.0).0;
      }

-- ---- the distance

draw_of : (v : Wdl) → outcome_of v ≡ None → v ≡ Draw
draw_of Loss e = absurd (cc)
draw_of BlessedLoss e = absurd (cc)
draw_of Draw e = refl
draw_of CursedWin e = absurd (cc)
draw_of Best e = absurd (cc)

module _ (tables : Tables) (p : Parts) (position : IsPosition p) (many : IsMany p) where
  module _ (a b : CaptureSearch) (ea : extreme_searched tables true p ≡ Ok a) (eb : extreme_searched tables false p ≡ Ok b) (same : worth a ≡ worth b) (d : Distance) where
    worth_is : IsDetermined tables p (worth a)
    worth_is own completes =
        let w = searched_between tables p position a b ea eb same own completes in
        where_meets_rule own p position ∙ rw (many, w.1) (ap (λ (x : Wdl). Ok x) w.2.worth_is)

    captures : is_by_capture a ≡ true → is_by_capture b ≡ true → IsByCapture tables p
    captures eca ecb own w completes e =
        let it = searched_between tables p position a b ea eb same own completes in
        let one : Ok it.0 ≡ Ok w = sym it.1 ∙ e in
        let is : it.0 ≡ w = cc in
        ap is_by_capture (sym is) ∙ it.2.capture eca ecb

    by_outcome_told : (o : Option Outcome) → outcome_of (worth a) ≡ o → zeroing_distance tables p a b o ≡ Some d → IsDistanceByValue tables p d
    by_outcome_told None eo e = (let is : d ≡ NoDistance = cc in OfDraw (subst (λ v. IsDetermined tables p v) (draw_of (worth a) eo) worth_is) is)
    by_outcome_told (Some outcome) eo e = step (is_by_capture a) (is_by_capture b) (is_won outcome) (is_reached (pawns_reach_in_both tables p (worth a))) refl refl refl refl e
      where
        step : (ca cb won reached : Bool) → is_by_capture a ≡ ca → is_by_capture b ≡ cb → is_won outcome ≡ won → is_reached (pawns_reach_in_both tables p (worth a)) ≡ reached
            → cond ((ca && cb) || (won && reached)) (Some (towards outcome (zeroing outcome))) None ≡ Some d → IsDistanceByValue tables p d
        step true true won reached eca ecb ew er e = (let is : d ≡ towards outcome (zeroing outcome) = cc in OfCapture (worth a) outcome worth_is eo (captures eca ecb) is)
        step true false true true eca ecb ew er e = (let is : d ≡ towards outcome (zeroing outcome) = cc in OfPawnMove (worth a) outcome worth_is eo ew (by_pawn_move tables p position (worth a) (is_reached-true _ er)) is)
        step true false true false eca ecb ew er e = absurd (cc)
        step true false false reached eca ecb ew er e = absurd (cc)
        step false cb true true eca ecb ew er e = (let is : d ≡ towards outcome (zeroing outcome) = cc in OfPawnMove (worth a) outcome worth_is eo ew (by_pawn_move tables p position (worth a) (is_reached-true _ er)) is)
        step false cb true false eca ecb ew er e = absurd (cc)
        step false cb false reached eca ecb ew er e = absurd (cc)

  pub by_value : (a b : Result CaptureSearch ValueFault) → extreme_searched tables true p ≡ a → extreme_searched tables false p ≡ b → (d : Distance) → agreed_distance tables p a b ≡ Some d → IsDistanceByValue tables p d
  by_value (Ok a) (Ok b) ea eb d e = step (is_same (worth a) (worth b)) refl e
    where
      step : (t : Bool) → is_same (worth a) (worth b) ≡ t → cond t (zeroing_distance tables p a b (outcome_of (worth a))) None ≡ Some d → IsDistanceByValue tables p d
      step true is e = by_outcome_told a b ea eb (is_same-true (worth a) (worth b) is) d (outcome_of (worth a)) refl e
      step false is e = absurd (cc)
  by_value (Ok a) (Err fault) ea eb d e = absurd (cc)
  by_value (Err fault) b ea eb d e = absurd (cc)
