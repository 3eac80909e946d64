-- Distances that are told by the two completions between which all others lie.
use Rattle.std.proofs.Common.{◌≡◌, ◌∙◌, sym, ap, refl, subst, ◌<◌, ◌≤◌, nat_le, nat_lt, Bool, true, false, not, ◌&&◌, ◌||◌, cond, if◌then◌else◌, List, [], ◌∷◌, Option, Some, None, filter, Result, Ok, Err, arith}
use Rattle.std.specs.List.{list_any}
use Rattle.std.proofs.lemmas.Bool.{ltb-true, ltb-false, lt-ltb, le-ltb, eqb-true, eq-eqb, false≢true}
use Rattle.board_core.specs.declared.parts.Parts.{Parts}
use Rattle.board_core.specs.declared.moves.Move.{Move}
use Rattle.board_core.specs.Position.{IsPosition}
use Rattle.board_core.specs.ComputedMoves.{position_after, legal_moves, count_of_men}
use Rattle.table_file.specs.declared.outcome.Outcome.{Outcome}
use Rattle.judge_core.specs.declared.distance.Distance.{Distance}
use Rattle.judge_core.specs.declared.distance.Distance.TheVariants.{Draw as NoDistance}
use Rattle.judge_core.specs.declared.fault.ValueFault.{ValueFault}
use Rattle.judge_core.specs.declared.found.CaptureSearch.{CaptureSearch}
use Rattle.judge_core.specs.declared.wdl.Wdl.{Wdl}
use Rattle.judge_core.specs.declared.wdl.Wdl.TheVariants.{Loss, BlessedLoss, Draw, CursedWin, Win as Best}
use Rattle.judge_core.specs.Values.{Reading, points, opposite, opposite_reading, greater, is_same, is_below, is_winning, outcome_of}
use Rattle.judge_core.specs.Tables.{Tables, table_value}
use Rattle.judge_core.specs.Asked.{asked, fault_in, unless}
use Rattle.judge_core.specs.Probing.{values_after, searched_where, searched_by, wdl_where, wdl_of, worth}
use Rattle.judge_core.specs.Distances.{Reach, is_won, is_value, is_pawn_step, is_by_capture, pawns_reach_where, unless_reached, by_own_table, by_moves, by_outcome, dtz_from_search, zeroing, towards, dtz_by, dtz_to, dtz_of}
use Rattle.judge_core.specs.Determined.{IsCompletion, IsCompletedBy, IsDetermined, IsDeterminedDistance, IsDeterminedReading}
use Rattle.judge_core.specs.Inside.Determined.{extreme_value, extreme_searched, agreed, or_agreed, in_both, value_in_both, pawns_reach_in_both, is_reached, zeroing_distance, agreed_distance, distance_in_both, determined_value, is_won_here}
use Rattle.judge_core.proofs.Rule.{still}
use Rattle.judge_core.proofs.Rising.{SearchesAtMost, same_points, points_most, greater_rises, worth_rises}
use Rattle.judge_core.proofs.RootCaptures.{greater_left, greater_right}
use Rattle.judge_core.proofs.Completed.{IsSearchBound, IsBound, search_bound, value_bound, is_same-true, is_same-refl, determined, undetermined}
use Rattle.judge_core.proofs.Kept.{unless_ok, no_fault_more, strict_value, searched_is, value_is}

-- ---- values

pub is_determined : (tables : Tables) (p : Parts) → IsPosition p → IsDeterminedReading tables p (determined_value tables p)
unfolding determined_value
is_determined tables p position = record {
  kept = kept;
  determined = λ v. told (wdl_of tables p) refl (agreed (extreme_value tables true p) (extreme_value tables false p)) refl v;
  fault_is = faulty (wdl_of tables p) refl (agreed (extreme_value tables true p) (extreme_value tables false p)) refl;
}
  where
    kept : (v : Wdl) → wdl_of tables p ≡ Ok v → or_agreed (wdl_of tables p) (agreed (extreme_value tables true p) (extreme_value tables false p)) ≡ Ok v
    kept v e = rw e refl

    told : (r : Reading) → wdl_of tables p ≡ r → (o : Option Wdl) → agreed (extreme_value tables true p) (extreme_value tables false p) ≡ o → (v : Wdl) → or_agreed r o ≡ Ok v → IsDetermined tables p v
    told (Ok u) er o eo v e = λ own completes. strict_value tables own completes p position v (er ∙ e)
    told (Err fault) er None eo v e = absurd (cc)
    told (Err fault) er (Some u) eo v e = (let same : u ≡ v = cc in determined tables p v position (eo ∙ ap (λ (x : Wdl). Some x) same))

    faulty : (r : Reading) → wdl_of tables p ≡ r → (o : Option Wdl) → agreed (extreme_value tables true p) (extreme_value tables false p) ≡ o → (fault : ValueFault) → or_agreed r o ≡ Err fault → (wdl_of tables p ≡ Err fault) × ((v : Wdl) → IsDetermined tables p v → ⊥)
    faulty (Ok u) er o eo fault e = absurd (cc)
    faulty (Err other) er None eo fault e = (er ∙ e, undetermined tables p eo)
    faulty (Err other) er (Some u) eo fault e = absurd (cc)

-- ---- a capture between two

greater_least : (a b : Wdl) (v : Wdl) → points a ≤ points v → points b ≤ points v → points (greater a b) ≤ points v
unfolding greater
greater_least a b v left right = step (nat_lt (points a) (points b))
  where
    step : (t : Bool) → points (cond t b a) ≤ points v
    step true = right
    step false = left

-- the ways in which a value is that of a capture, where other moves are legal
data ByCapture (w : CaptureSearch) : Type 0 where
  Wins : points (greater w.capture w.passant) ≡ 4 → ByCapture w
  Passes : points (greater w.capture w.own) < points w.passant → ByCapture w
  Suffices : points w.own ≤ points (greater w.capture w.passant) → 2 < points (greater w.capture w.passant) → ByCapture w

by_capture-from : (w : CaptureSearch) → w.forced ≡ false → is_by_capture w ≡ true → ByCapture w
by_capture-from w f e = step (is_same (greater w.capture w.passant) Best) (is_below (greater w.capture w.own) w.passant) (is_below (greater w.capture w.passant) w.own) (is_winning (greater w.capture w.passant)) refl refl refl refl (rw f at e)
  where
    step : (a b c d : Bool) → is_same (greater w.capture w.passant) Best ≡ a → is_below (greater w.capture w.own) w.passant ≡ b → is_below (greater w.capture w.passant) w.own ≡ c → is_winning (greater w.capture w.passant) ≡ d
        → (a || b || (not c && d)) ≡ true → ByCapture w
    step true b c d ea eb ec ed e = Wins (eqb-true (points (greater w.capture w.passant)) 4 ea)
    step false true c d ea eb ec ed e = Passes (ltb-true (points (greater w.capture w.own)) (points w.passant) eb)
    step false false true d ea eb ec ed e = absurd (false≢true e)
    step false false false true ea eb ec ed e = Suffices (ltb-false (points (greater w.capture w.passant)) (points w.own) ec) (ltb-true 2 (points (greater w.capture w.passant)) ed)
    step false false false false ea eb ec ed e = absurd (false≢true e)

or_first : (f a b c : Bool) → a ≡ true → (f || a || b || c) ≡ true
or_first true a b c e = refl
or_first false a b c e = rw e refl

or_second : (f a b c : Bool) → b ≡ true → (f || a || b || c) ≡ true
or_second true a b c e = refl
or_second false true b c e = refl
or_second false false b c e = rw e refl

or_third : (f a b c : Bool) → c ≡ true → (f || a || b || c) ≡ true
or_third true a b c e = refl
or_third false true b c e = refl
or_third false false true c e = refl
or_third false false false c e = e

by_capture-to : (w : CaptureSearch) → ByCapture w → is_by_capture w ≡ true
by_capture-to w (Wins e) = or_first w.forced _ _ _ (eq-eqb (points (greater w.capture w.passant)) 4 e)
by_capture-to w (Passes e) = or_second w.forced (is_same (greater w.capture w.passant) Best) _ _ (lt-ltb (points (greater w.capture w.own)) (points w.passant) e)
by_capture-to w (Suffices le lt) =
    or_third w.forced (is_same (greater w.capture w.passant) Best) (is_below (greater w.capture w.own) w.passant) (not (is_below (greater w.capture w.passant) w.own) && is_winning (greater w.capture w.passant))
    (rw (le-ltb (points (greater w.capture w.passant)) (points w.own) le, lt-ltb 2 (points (greater w.capture w.passant)) lt) refl)

module _ (low mid high : CaptureSearch) (below : SearchesAtMost low mid) (above : SearchesAtMost mid high) (same : worth low ≡ worth high) where
  free : low.forced ≡ false → mid.forced ≡ false
  free f = sym below.forced ∙ f

  free_high : low.forced ≡ false → high.forced ≡ false
  free_high f = sym above.forced ∙ free f

  -- the best of captures
  best : CaptureSearch → Wdl
  best w = greater w.capture w.passant

  best_of : (w : CaptureSearch) → w.forced ≡ false → points (greater (greater w.capture w.passant) w.own) ≡ points (worth w)
  best_of w f = rw f refl

  mid_capture : low.forced ≡ false → ByCapture low → ByCapture high → ByCapture mid
  mid_capture f (Wins e) h =
      let up = greater_rises low.capture low.passant mid.capture mid.passant below.capture below.passant in
      let most = points_most (greater mid.capture mid.passant) in
      Wins (omega (arith, e, up, most))
  mid_capture f (Suffices le lt) h =
      let up = greater_rises low.capture low.passant mid.capture mid.passant below.capture below.passant in
      let whole = greater_least (greater low.capture low.passant) low.own (greater low.capture low.passant) (omega arith) le in
      let el = best_of low f in
      let eh = best_of high (free_high f) in
      let es = ap points same in
      let own = greater_right (greater high.capture high.passant) high.own in
      let most = above.own in
      Suffices (omega (arith, up, whole, el, eh, es, own, most)) (omega (arith, up, lt))
  mid_capture f (Passes lt) h = by_high h
    where
      -- what the low one is worth is its en passant
      low_is : points (worth low) ≤ points low.passant
      low_is =
          let left = greater_left low.capture low.own in
          let right = greater_right low.capture low.own in
          let best_is = greater_least low.capture low.passant low.passant (omega (arith, left, lt)) (omega arith) in
          let whole = greater_least (greater low.capture low.passant) low.own low.passant best_is (omega (arith, right, lt)) in
          let el = best_of low f in
          omega (arith, whole, el)

      by_high : ByCapture high → ByCapture mid
      by_high (Wins e) =
          let whole = greater_left (greater high.capture high.passant) high.own in
          let eh = best_of high (free_high f) in
          let es = ap points same in
          let up = greater_right mid.capture mid.passant in
          let most = points_most (greater mid.capture mid.passant) in
          let le = below.passant in
          Wins (omega (arith, e, whole, eh, es, up, most, le, low_is))
      by_high (Passes lt') =
          let down = greater_rises mid.capture mid.own high.capture high.own above.capture above.own in
          let eh = best_of high (free_high f) in
          let es = ap points same in
          let pass = greater_right high.capture high.passant in
          let whole = greater_left (greater high.capture high.passant) high.own in
          let le = below.passant in
          Passes (omega (arith, lt', down, eh, es, pass, whole, le, low_is))
      by_high (Suffices le' lt') =
          let whole = greater_left (greater high.capture high.passant) high.own in
          let own = greater_right (greater high.capture high.passant) high.own in
          let eh = best_of high (free_high f) in
          let es = ap points same in
          let up = greater_right mid.capture mid.passant in
          let le = below.passant in
          let most = above.own in
          Suffices (omega (arith, own, eh, es, up, le, most, low_is)) (omega (arith, lt', whole, eh, es, up, le, low_is))

  pub capture_between : is_by_capture low ≡ true → is_by_capture high ≡ true → is_by_capture mid ≡ true
  capture_between el eh = step low.forced refl
    where
      step : (t : Bool) → low.forced ≡ t → is_by_capture mid ≡ true
      step true f = rw (sym below.forced ∙ f) refl
      step false f = by_capture-to mid (mid_capture f (by_capture-from low f el) (by_capture-from high (free_high f) eh))

  pub worth_between : worth mid ≡ worth low
  worth_between =
      let up = worth_rises low mid below in
      let down = worth_rises mid high above in
      let es = ap points same in
      same_points (worth mid) (worth low) (omega (arith, up, down, es))

-- ---- what is searched in a completion

-- it lies between these two
pub record LiesBetween (a b w : CaptureSearch) : Type 0 where
  pub worth_is : worth w ≡ worth a
  pub capture : is_by_capture a ≡ true → is_by_capture b ≡ true → is_by_capture w ≡ true

from_bounds : (won : Bool) (w : Result CaptureSearch ValueFault) (a b : CaptureSearch) → worth a ≡ worth b → IsSearchBound won w (Ok a) → IsSearchBound (not won) w (Ok b) → (x : CaptureSearch) × (w ≡ Ok x) × LiesBetween a b x
from_bounds true (Ok w) a b same ha hb = (w, refl, record { worth_is = worth_between b w a hb ha (sym same) ∙ sym same; capture = λ ea eb. capture_between b w a hb ha (sym same) eb ea })
from_bounds false (Ok w) a b same ha hb = (w, refl, record { worth_is = worth_between a w b ha hb same; capture = λ ea eb. capture_between a w b ha hb same ea eb })
from_bounds true (Err fault) a b same ha hb = absurd ha
from_bounds false (Err fault) a b same ha hb = absurd ha

module _ (tables : Tables) (p : Parts) (position : IsPosition p) (a b : CaptureSearch) (ea : extreme_searched tables true p ≡ Ok a) (eb : extreme_searched tables false p ≡ Ok b) (same : worth a ≡ worth b) where
  pub searched_between : (own : Parts → Reading) → IsCompletion tables own → (w : CaptureSearch) × (searched_where own (wdl_where own) p ≡ Ok w) × LiesBetween a b w
  searched_between own completes =
      from_bounds (is_won_here true (count_of_men p)) (searched_where own (wdl_where own) p) a b same
      (subst (λ r. IsSearchBound (is_won_here true (count_of_men p)) (searched_where own (wdl_where own) p) r) ea (search_bound tables own completes true p position))
      (subst (λ r. IsSearchBound (is_won_here false (count_of_men p)) (searched_where own (wdl_where own) p) r) eb (search_bound tables own completes false p position))

-- ---- pawn moves

-- the second has a value where the first has, and reaches this one where the first does
abbrev pub Reaches : Wdl → Reading → Reading → Type 0
Reaches v r s = (x : Wdl) → r ≡ Ok x → (y : Wdl) × (s ≡ Ok y) × (is_value v (Ok x) ≡ true → is_value v (Ok y) ≡ true)

module _ (v : Wdl) (say say' : Parts → Reading) (p : Parts) (t : Move → Bool) (h : (m : Move) (q : Parts) → t m ≡ true → position_after p m ≡ Some q → Reaches v (say q) (say' q)) where
  abbrev pub AlsoReached : List Reading → List Reading → Type 0
  AlsoReached rs ss = (fault_in ss ≡ None) × (list_any (is_value v) rs ≡ true → list_any (is_value v) ss ≡ true)

  one_value : (rs ss : List Reading) (r s : Reading) → Reaches v r s → fault_in (r ∷ rs) ≡ None → (fault_in rs ≡ None → AlsoReached rs ss) → AlsoReached (r ∷ rs) (s ∷ ss)
  one_value rs ss r s reaches none rest =
      let there = no_fault_more r rs none in
      let after = rest there.1 in
      let it = reaches there.0.0 there.0.1 in
      (rw it.1 after.0, λ any. (let any' = rw there.0.1 at any in rw it.1 (either there.0.0 it.0 (is_value v (Ok there.0.0)) refl any' it.2 after.1)))
    where
      or_true : (a b : Bool) → b ≡ true → (a || b) ≡ true
      or_true true b e = refl
      or_true false b e = e

      either : (x y : Wdl) (b : Bool) → is_value v (Ok x) ≡ b → (is_value v (Ok x) || list_any (is_value v) rs) ≡ true → (is_value v (Ok x) ≡ true → is_value v (Ok y) ≡ true) → (list_any (is_value v) rs ≡ true → list_any (is_value v) ss ≡ true) → (is_value v (Ok y) || list_any (is_value v) ss) ≡ true
      either x y true e any one more = rw (one e) refl
      either x y false e any one more = or_true _ _ (more (rw e at any))

  pub all_reached : (ms : List Move) → fault_in (asked say p (filter t ms)) ≡ None → AlsoReached (asked say p (filter t ms)) (asked say' p (filter t ms))
  all_reached [] none = (refl, λ e. e)
  all_reached (m ∷ ms) none = step (all_reached ms) (t m) (position_after p m) refl refl none
    where
      step : (fault_in (asked say p (filter t ms)) ≡ None → AlsoReached (asked say p (filter t ms)) (asked say' p (filter t ms))) → (b : Bool) (o : Option Parts) → t m ≡ b → position_after p m ≡ o → fault_in (asked say p (filter t (m ∷ ms))) ≡ None
          → AlsoReached (asked say p (filter t (m ∷ ms))) (asked say' p (filter t (m ∷ ms)))
      step rest false o et eo none = rw et (rest (rw et at none))
      step rest true None et eo none = rw (et, eo) (rest (rw (et, eo) at none))
      step rest true (Some q) et eo none = rw (et, eo) (one_value (asked say p (filter t ms)) (asked say' p (filter t ms)) (say q) (say' q) (h m q et eo) (rw (et, eo) at none) rest)

pub reached_of : (o : Option ValueFault) (b : Bool) → unless o (Ok b) ≡ Ok true → b ≡ true
reached_of None b e = cc
reached_of (Some fault) b e = absurd (cc)

pub is_reached-true : (r : Result Bool ValueFault) → is_reached r ≡ true → r ≡ Ok true
is_reached-true (Ok b) e = ap (λ (x : Bool). Ok x) e
is_reached-true (Err fault) e = absurd (false≢true e)

-- only where both have it
pub in_both-ok : (v : Wdl) (a b : Reading) (x : Wdl) → in_both v a b ≡ Ok x → (u : Wdl) × (w : Wdl) × (a ≡ Ok u) × (b ≡ Ok w) × (x ≡ v → (u ≡ v) × (w ≡ v))
in_both-ok v (Ok u) (Ok w) x e = (u, w, refl, refl, λ is. step (is_same u v) refl e is)
  where
    step : (t : Bool) → is_same u v ≡ t → in_both v (Ok u) (Ok w) ≡ Ok x → x ≡ v → (u ≡ v) × (w ≡ v)
    step true es e is = (let e' = rw es at e in let same : w ≡ x = cc in (is_same-true u v es, same ∙ is))
    step false es e is = (let e' = rw es at e in let same : u ≡ x = cc in absurd (false≢true (sym es ∙ ap (λ (y : Wdl). is_same y v) (same ∙ is) ∙ is_same-refl v)))
in_both-ok v (Ok u) (Err fault) x e = absurd (cc)
in_both-ok v (Err fault) b x e = absurd (cc)

from_values : (won : Bool) (r : Reading) (u w : Wdl) → IsBound won r (Ok u) → IsBound (not won) r (Ok w) → (y : Wdl) × (r ≡ Ok y) × ((v : Wdl) → u ≡ v → w ≡ v → y ≡ v)
from_values true (Ok y) u w hu hw = (y, refl, λ v eu ew. same_points y v (let pu = ap points eu in let pw = ap points ew in omega (arith, hu, hw, pu, pw)))
from_values false (Ok y) u w hu hw = (y, refl, λ v eu ew. same_points y v (let pu = ap points eu in let pw = ap points ew in omega (arith, hu, hw, pu, pw)))
from_values true (Err fault) u w hu hw = absurd hu
from_values false (Err fault) u w hu hw = absurd hu

pub opposite-twice : (v : Wdl) → opposite (opposite v) ≡ v
opposite-twice Loss = refl
opposite-twice BlessedLoss = refl
opposite-twice Draw = refl
opposite-twice CursedWin = refl
opposite-twice Best = refl

-- what a pawn move reaches in both, it reaches in every completion
pub both_reach : (tables : Tables) (own : Parts → Reading) → IsCompletion tables own → (v : Wdl) (q : Parts) → IsPosition q → Reaches v (opposite_reading (value_in_both tables (opposite v) q)) (opposite_reading (wdl_where own q))
unfolding value_in_both
both_reach tables own completes v q position x e = from_turned (in_both (opposite v) (extreme_value tables true q) (extreme_value tables false q)) refl e
  where
    from_turned : (r : Reading) → in_both (opposite v) (extreme_value tables true q) (extreme_value tables false q) ≡ r → opposite_reading r ≡ Ok x → (y : Wdl) × (opposite_reading (wdl_where own q) ≡ Ok y) × (is_value v (Ok x) ≡ true → is_value v (Ok y) ≡ true)
    from_turned (Err fault) er e = absurd (cc)
    from_turned (Ok z) er e =
        let parts = in_both-ok (opposite v) (extreme_value tables true q) (extreme_value tables false q) z er in
        let it = from_values (is_won_here true (count_of_men q)) (wdl_where own q) parts.0 parts.1
        (subst (λ r. IsBound (is_won_here true (count_of_men q)) (wdl_where own q) r) parts.2 (value_bound tables own completes true q position))
        (subst (λ r. IsBound (is_won_here false (count_of_men q)) (wdl_where own q) r) parts.3 (value_bound tables own completes false q position)) in
        let turn : opposite z ≡ x = cc in (
          opposite it.0,
          ap opposite_reading it.1,
          λ is. (
              let ex : x ≡ v = is_same-true x v is in
              let ez : z ≡ opposite v = sym (opposite-twice z) ∙ ap opposite (turn ∙ ex) in
              let both = parts.4 ez in
              let ey = it.2 (opposite v) both.0 both.1 in
              ap (λ (y : Wdl). is_same y v) (ap opposite ey ∙ opposite-twice v) ∙ is_same-refl v),
        )

module _ (tables more : Tables) (c : IsCompletedBy tables more) (v : Wdl) where
  reach_more : (q : Parts) → IsPosition q → Reaches v (opposite_reading (value_in_both tables (opposite v) q)) (opposite_reading (wdl_of more q))
  reach_more q position = subst (λ r. Reaches v (opposite_reading (value_in_both tables (opposite v) q)) (opposite_reading r)) (sym (value_is more q)) (both_reach tables (table_value more) c.values v q position)

  pub pawns_between : (p : Parts) → IsPosition p → pawns_reach_in_both tables p v ≡ Ok true → pawns_reach_where (wdl_of more) p v ≡ Ok true
  unfolding pawns_reach_where
  pawns_between p position e =
      let parts = unless_ok _ _ true e in
      let any : list_any (is_value v) (values_after (value_in_both tables (opposite v)) p (filter (is_pawn_step p) (legal_moves p))) ≡ true = reached_of _ _ e in
      let all = all_reached v (λ q. opposite_reading (value_in_both tables (opposite v) q)) (λ q. opposite_reading (wdl_of more q)) p (is_pawn_step p) (λ m q t a. reach_more q (still p q m position a)) (legal_moves p) parts.0 in
      rw (all.0, all.1 any) refl

-- ---- the distance

-- of three or more men
abbrev pub IsMany : Parts → Type 0
IsMany p = nat_le (count_of_men p) 2 ≡ false

pub opened : (tables : Tables) (p : Parts) → dtz_of tables p ≡ dtz_by tables (dtz_to tables 1) p
unfolding dtz_of dtz_to
opened tables p = refl

pub many_by : (tables : Tables) (p : Parts) → IsMany p → dtz_of tables p ≡ dtz_from_search tables (dtz_to tables 1) p (searched_by tables (wdl_of tables) p)
many_by tables p many = opened tables p ∙ rw many refl

module _ (tables : Tables) (p : Parts) (position : IsPosition p) (many : IsMany p) where
  module _ (a b : CaptureSearch) (ea : extreme_searched tables true p ≡ Ok a) (eb : extreme_searched tables false p ≡ Ok b) (same : worth a ≡ worth b) (more : Tables) (c : IsCompletedBy tables more) (reach : Parts → Reach) where
    by_pawns : (w : CaptureSearch) (outcome : Outcome) → worth w ≡ worth a → is_won outcome ≡ true → pawns_reach_in_both tables p (worth a) ≡ Ok true → by_moves more reach p (worth w) outcome ≡ Ok (towards outcome (zeroing outcome))
    unfolding by_moves
    by_pawns w outcome ew won reached =
        let own = by_own_table more reach p outcome in
        ap (λ (v : Wdl). by_moves more reach p v outcome) ew
        ∙ ap (λ (t : Bool). if t then unless_reached (pawns_reach_where (wdl_of more) p (worth a)) outcome own else own) won
        ∙ ap (λ (r : Result Bool ValueFault). unless_reached r outcome own) (pawns_between tables more c (worth a) p position reached)

    dtz_from_search_there : (o : Option Outcome) → outcome_of (worth a) ≡ o → (d : Distance) → zeroing_distance tables p a b o ≡ Some d → dtz_by more reach p ≡ Ok d
    dtz_from_search_there o eo d e =
        let w = searched_between tables p position a b ea eb same (table_value more) c.values in
        let is = searched_is more p ∙ w.1 in
        let eo' = ap outcome_of w.2.worth_is ∙ eo in
        rw many refl ∙ ap (dtz_from_search more reach p) is ∙ ap (by_outcome more reach p w.0) eo' ∙ by_kind w.0 w.2 o eo e
      where
        by_pawn : (w : CaptureSearch) → LiesBetween a b w → (outcome : Outcome) → is_won outcome ≡ true → is_reached (pawns_reach_in_both tables p (worth a)) ≡ true → Some (towards outcome (zeroing outcome)) ≡ Some d → by_outcome more reach p w (Some outcome) ≡ Ok d
        by_pawn w lies outcome ew er e =
            let is : towards outcome (zeroing outcome) ≡ d = cc in
            step (is_by_capture w) (by_pawns w outcome lies.worth_is ew (is_reached-true _ er)) ∙ ap (λ (x : Distance). Ok x) is
          where
            step : (t : Bool) → by_moves more reach p (worth w) outcome ≡ Ok (towards outcome (zeroing outcome)) → cond t (Ok (towards outcome (zeroing outcome))) (by_moves more reach p (worth w) outcome) ≡ Ok (towards outcome (zeroing outcome))
            step true h = refl
            step false h = h

        by_zeroing : (w : CaptureSearch) → LiesBetween a b w → (outcome : Outcome) (ca cb won reached : Bool) → is_by_capture a ≡ ca → is_by_capture b ≡ cb → is_won outcome ≡ won → is_reached (pawns_reach_in_both tables p (worth a)) ≡ reached
            → cond ((ca && cb) || (won && reached)) (Some (towards outcome (zeroing outcome))) None ≡ Some d → by_outcome more reach p w (Some outcome) ≡ Ok d
        by_zeroing w lies outcome true true won reached eca ecb ew er e = (let is : towards outcome (zeroing outcome) ≡ d = cc in rw (lies.capture eca ecb) (ap (λ (x : Distance). Ok x) is))
        by_zeroing w lies outcome true false true true eca ecb ew er e = by_pawn w lies outcome ew er e
        by_zeroing w lies outcome true false true false eca ecb ew er e = absurd (cc)
        by_zeroing w lies outcome true false false reached eca ecb ew er e = absurd (cc)
        by_zeroing w lies outcome false cb true true eca ecb ew er e = by_pawn w lies outcome ew er e
        by_zeroing w lies outcome false cb true false eca ecb ew er e = absurd (cc)
        by_zeroing w lies outcome false cb false reached eca ecb ew er e = absurd (cc)

        by_kind : (w : CaptureSearch) → LiesBetween a b w → (o : Option Outcome) → outcome_of (worth a) ≡ o → zeroing_distance tables p a b o ≡ Some d → by_outcome more reach p w o ≡ Ok d
        by_kind w lies None eo e = (let is : NoDistance ≡ d = cc in ap (λ (x : Distance). Ok x) is)
        by_kind w lies (Some outcome) eo e = by_zeroing w lies outcome (is_by_capture a) (is_by_capture b) (is_won outcome) (is_reached (pawns_reach_in_both tables p (worth a))) refl refl refl refl e

  -- whatever distances the positions after quiet moves have there
  pub told_by : (a b : Result CaptureSearch ValueFault) → extreme_searched tables true p ≡ a → extreme_searched tables false p ≡ b → (d : Distance) → agreed_distance tables p a b ≡ Some d → (more : Tables) → IsCompletedBy tables more → (reach : Parts → Reach) → dtz_by more reach p ≡ Ok d
  told_by (Ok a) (Ok b) ea eb d e = λ more c reach. step more c reach (is_same (worth a) (worth b)) refl e
    where
      step : (more : Tables) → IsCompletedBy tables more → (reach : Parts → Reach) → (t : Bool) → is_same (worth a) (worth b) ≡ t → cond t (zeroing_distance tables p a b (outcome_of (worth a))) None ≡ Some d → dtz_by more reach p ≡ Ok d
      step more c reach true is e = dtz_from_search_there a b ea eb (is_same-true (worth a) (worth b) is) more c reach (outcome_of (worth a)) refl d e
      step more c reach false is e = absurd (cc)
  told_by (Ok a) (Err fault) ea eb d e = absurd (cc)
  told_by (Err fault) b ea eb d e = absurd (cc)

  pub told : (d : Distance) → distance_in_both tables p ≡ Some d → IsDeterminedDistance tables p d
  told d e more c = opened more p ∙ told_by (extreme_searched tables true p) (extreme_searched tables false p) refl refl d e more c (dtz_to more 1)
