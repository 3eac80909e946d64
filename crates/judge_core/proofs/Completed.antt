-- Every completion of the missing WDL tables lies between two, and these decide what is determined.
use Rattle.std.proofs.Common.{◌≡◌, ◌∙◌, sym, ap, refl, subst, ℕ, zero, suc, ◌+◌, ◌%◌, ◌≤◌, eqb, Bool, true, false, not, cond, Some, None, Result, Ok, Err, arith}
use Rattle.std.proofs.lemmas.Bool.{eqb-true, eqb-false, eq-eqb, false≢true}
use Rattle.board_core.specs.declared.parts.Parts.{Parts}
use Rattle.board_core.specs.declared.moves.Move.{Move}
use Rattle.board_core.specs.Position.{IsPosition}
use Rattle.board_core.specs.ComputedMoves.{position_after, is_capture, count_of_men}
use Rattle.board_core.proofs.ComputedMen.{men_of_position}
use Rattle.judge_core.specs.declared.determined.ReachedIn.{ReachedIn}
use Rattle.judge_core.specs.declared.determined.ReachedIn.TheVariants.{EachCompletion, SomeCompletion}
use Rattle.judge_core.specs.declared.fault.ValueFault.{ValueFault}
use Rattle.judge_core.specs.declared.fault.ValueFault.TheVariants.{NotCovered, Damaged}
use Rattle.judge_core.specs.declared.found.CaptureSearch.{CaptureSearch}
use Rattle.judge_core.specs.declared.wdl.Wdl.{Wdl}
use Rattle.judge_core.specs.declared.wdl.Wdl.TheVariants.{Loss, Win}
use Rattle.judge_core.specs.Values.{Reading, points, is_same, opposite}
use Rattle.judge_core.specs.Tables.{Tables, table_value}
use Rattle.judge_core.specs.Probing.{searched_where, wdl_from_search, wdl_where}
use Rattle.judge_core.specs.Determined.{Completes, IsCompletion, IsDetermined, IsUndetermined}
use Rattle.judge_core.specs.Inside.Determined.{is_won_here, fill, in_stead, extreme, extreme_value, extreme_searched, agreed, in_both, value_in_both, in_some, value_in_some, step_value_in}
use Rattle.judge_core.proofs.Captures.{falls}
use Rattle.judge_core.proofs.Rule.{where_meets_rule, still}
use Rattle.judge_core.proofs.Rising.{AtMost, AtMostSearched, at_most-turned, points_most, same_points, value_rises, searched_rises}

-- ---- the two completions

pub completed_by : (r : Reading) (v : Wdl) → Completes r (in_stead r v)
completed_by (Ok u) v = refl
completed_by (Err (NotCovered key)) v = refl
completed_by (Err (Damaged key)) v = refl

pub extreme-completes : (tables : Tables) (odd : Bool) → IsCompletion tables (extreme tables odd)
unfolding extreme
extreme-completes tables odd p = completed_by (table_value tables p) (fill odd (count_of_men p))

-- ---- odd and even numbers of men

odd_next : (n : ℕ) → eqb ((n + 1) % 2) 1 ≡ not (eqb (n % 2) 1)
odd_next n = step (eqb (n % 2) 1) refl
  where
    step : (b : Bool) → eqb (n % 2) 1 ≡ b → eqb ((n + 1) % 2) 1 ≡ not b
    step true e = (let is = eqb-true (n % 2) 1 e in let next : (n + 1) % 2 ≡ 0 = omega (arith, is) in rw next refl)
    step false e = (let apart = eqb-false (n % 2) 1 e in let next : (n + 1) % 2 ≡ 1 = omega (arith, apart) in rw next refl)

not_not : (b : Bool) → not (not b) ≡ b
not_not true = refl
not_not false = refl

-- where there is one man fewer the other side has the missing tables
pub turns : (odd : Bool) (n k : ℕ) → n + 1 ≡ k → is_won_here odd n ≡ not (is_won_here odd k)
turns true n k e = sym (ap not (ap (λ x. eqb (x % 2) 1) (sym e) ∙ odd_next n) ∙ not_not (eqb (n % 2) 1))
turns false n k e = ap not (sym (ap not (ap (λ x. eqb (x % 2) 1) (sym e) ∙ odd_next n) ∙ not_not (eqb (n % 2) 1)))

pub other_way : (n : ℕ) → is_won_here false n ≡ not (is_won_here true n)
other_way n = refl

-- ---- between them

-- the second is the bound above, or the bound below
abbrev pub IsBound : Bool → Reading → Reading → Type 0
IsBound true r bound = AtMost r bound
IsBound false r bound = AtMost bound r

abbrev pub IsSearchBound : Bool → Result CaptureSearch ValueFault → Result CaptureSearch ValueFault → Type 0
IsSearchBound true w bound = AtMostSearched w bound
IsSearchBound false w bound = AtMostSearched bound w

own_bound : (won : Bool) (r own : Reading) → Completes r own → IsBound won own (in_stead r (cond won Win Loss))
own_bound true (Ok v) own c = rw c (omega arith)
own_bound false (Ok v) own c = rw c (omega arith)
own_bound true (Err (NotCovered key)) (Ok v) c = points_most v
own_bound false (Err (NotCovered key)) (Ok v) c = omega arith
own_bound true (Err (NotCovered key)) (Err fault) c = absurd (false≢true c)
own_bound false (Err (NotCovered key)) (Err fault) c = absurd (false≢true c)
own_bound true (Err (Damaged key)) own c = rw c refl
own_bound false (Err (Damaged key)) own c = rw c refl

module _ (tables : Tables) (own : Parts → Reading) (completes : IsCompletion tables own) (odd : Bool) where
  abbrev won : Parts → Bool
  won p = is_won_here odd (count_of_men p)

  own_is : (p : Parts) → IsBound (won p) (own p) (extreme tables odd p)
  unfolding extreme
  own_is p = own_bound (won p) (table_value tables p) (own p) (completes p)

  -- by the bounds of the positions after captures
  by_captures : (p : Parts) (b : Bool) → won p ≡ b → ((m : Move) (q : Parts) → is_capture p m ≡ true → position_after p m ≡ Some q → IsBound (not b) (wdl_where own q) (extreme_value tables odd q))
      → IsSearchBound b (searched_where own (wdl_where own) p) (extreme_searched tables odd p)
  by_captures p true e h = searched_rises (wdl_where own) (extreme_value tables odd) p (λ m q c a. at_most-turned _ _ (h m q c a)) own (extreme tables odd) (rw e at (own_is p))
  by_captures p false e h = searched_rises (extreme_value tables odd) (wdl_where own) p (λ m q c a. at_most-turned _ _ (h m q c a)) (extreme tables odd) own (rw e at (own_is p))

  dtz_from_search : (p : Parts) (b : Bool) (w bound : Result CaptureSearch ValueFault) → IsSearchBound b w bound → IsBound b (wdl_from_search p w) (wdl_from_search p bound)
  dtz_from_search p true w bound h = value_rises p w bound h
  dtz_from_search p false w bound h = value_rises p bound w h

  bounded_to : (n : ℕ) (p : Parts) → IsPosition p → count_of_men p ≤ n → IsSearchBound (won p) (searched_where own (wdl_where own) p) (extreme_searched tables odd p)
  bounded_to zero p position few = absurd (let two = men_of_position p position in omega arith)
  bounded_to (suc n) p position few =
      by_captures p (won p) refl (λ m q c a.
      (let less = falls p q m position c a in
      let after = still p q m position a in
      let rest = bounded_to n q after (omega arith) in
      let bound = dtz_from_search q (won q) _ _ rest in
      let rules : IsBound (won q) (wdl_where own q) (extreme_value tables odd q) = subst (λ r. IsBound (won q) r (extreme_value tables odd q)) (sym (where_meets_rule own q after)) (subst (λ r. IsBound (won q) (wdl_from_search q (searched_where own (wdl_where own) q)) r) (sym (where_meets_rule (extreme tables odd) q after)) bound) in
      subst (λ b. IsBound b (wdl_where own q) (extreme_value tables odd q)) (turns odd (count_of_men q) (count_of_men p) less) rules))

  pub search_bound : (p : Parts) → IsPosition p → IsSearchBound (won p) (searched_where own (wdl_where own) p) (extreme_searched tables odd p)
  search_bound p position = bounded_to (count_of_men p) p position (omega arith)

  pub value_bound : (p : Parts) → IsPosition p → IsBound (won p) (wdl_where own p) (extreme_value tables odd p)
  value_bound p position =
      subst (λ r. IsBound (won p) r (extreme_value tables odd p)) (sym (where_meets_rule own p position)) (subst (λ r. IsBound (won p) (wdl_from_search p (searched_where own (wdl_where own) p)) r) (sym (where_meets_rule (extreme tables odd) p position)) (dtz_from_search p (won p) _ _ (search_bound p position)))

-- ---- what both say

pub is_same-true : (u v : Wdl) → is_same u v ≡ true → u ≡ v
is_same-true u v e = same_points u v (eqb-true (points u) (points v) e)

pub is_same-refl : (v : Wdl) → is_same v v ≡ true
is_same-refl v = eq-eqb (points v) (points v) refl

-- the value that two readings have
pub agreed-both : (a b : Reading) (v : Wdl) → agreed a b ≡ Some v → (a ≡ Ok v) × (b ≡ Ok v)
agreed-both (Ok u) (Ok w) v e = (let parts = step (is_same u w) refl e in (ap (λ (x : Wdl). Ok x) parts.0, ap (λ (x : Wdl). Ok x) parts.1))
  where
    step : (t : Bool) → is_same u w ≡ t → cond t (Some u) None ≡ Some v → (u ≡ v) × (w ≡ v)
    step true is e = (let same : u ≡ v = cc in (same, sym (is_same-true u w is) ∙ same))
    step false is e = absurd (cc)
agreed-both (Ok u) (Err fault) v e = absurd (cc)
agreed-both (Err fault) b v e = absurd (cc)

pub agreed-from : (a b : Reading) (v : Wdl) → a ≡ Ok v → b ≡ Ok v → agreed a b ≡ Some v
agreed-from a b v ea eb = rw (ea, eb, is_same-refl v) refl

-- a reading between two that are the same
pub between : (won : Bool) (r : Reading) (v : Wdl) → IsBound won r (Ok v) → IsBound (not won) r (Ok v) → r ≡ Ok v
between true (Ok u) v a b = ap (λ (x : Wdl). Ok x) (same_points u v (omega (arith, a, b)))
between false (Ok u) v a b = ap (λ (x : Wdl). Ok x) (same_points u v (omega (arith, a, b)))
between true (Err fault) v a b = absurd a
between false (Err fault) v a b = absurd a

pub determined : (tables : Tables) (p : Parts) (v : Wdl) → IsPosition p → agreed (extreme_value tables true p) (extreme_value tables false p) ≡ Some v → IsDetermined tables p v
determined tables p v position e own completes =
    let both = agreed-both (extreme_value tables true p) (extreme_value tables false p) v e in
    between (is_won_here true (count_of_men p)) (wdl_where own p) v
    (subst (λ r. IsBound (is_won_here true (count_of_men p)) (wdl_where own p) r) both.0 (value_bound tables own completes true p position))
    (subst (λ r. IsBound (is_won_here false (count_of_men p)) (wdl_where own p) r) both.1 (value_bound tables own completes false p position))

pub undetermined : (tables : Tables) (p : Parts) → agreed (extreme_value tables true p) (extreme_value tables false p) ≡ None → IsUndetermined tables p
undetermined tables p e v is =
    let some = agreed-from (extreme_value tables true p) (extreme_value tables false p) v (is (extreme tables true) (extreme-completes tables true)) (is (extreme tables false) (extreme-completes tables false)) in
    absurd (cc)

-- ---- the code's steps

pub extreme-is : (tables : Tables) (p q : Parts) (odd : Bool) (own : Reading) (men : ℕ) (v : Wdl) (r : Reading) → own ≡ table_value tables p → q ≡ p → men ≡ count_of_men q → v ≡ fill odd men → r ≡ in_stead own v → r ≡ extreme tables odd p
unfolding extreme
extreme-is tables p q odd own men v r eo eq em ev er = er ∙ ap (λ (x : Reading). in_stead x v) eo ∙ ap (λ (x : Wdl). in_stead (table_value tables p) x) (ev ∙ ap (fill odd) (em ∙ ap count_of_men eq))

module _ (within : ReachedIn) (tables : Tables) (v : Wdl) (p : Parts) (odd even : Reading) (turned : Wdl) (r : Reading) where
  pub each-is : within ≡ EachCompletion → odd ≡ extreme_value tables true p → even ≡ extreme_value tables false p → turned ≡ opposite v → r ≡ in_both turned odd even → r ≡ step_value_in within tables v p
  unfolding value_in_both
  each-is ew eo ee et er = rw ew (er ∙ ap (λ (x : Wdl). in_both x odd even) et ∙ ap (λ (x : Reading). in_both (opposite v) x even) eo ∙ ap (λ (x : Reading). in_both (opposite v) (extreme_value tables true p) x) ee)

  pub some-is : within ≡ SomeCompletion → odd ≡ extreme_value tables true p → even ≡ extreme_value tables false p → turned ≡ opposite v → r ≡ in_some turned odd even → r ≡ step_value_in within tables v p
  unfolding value_in_some
  some-is ew eo ee et er = rw ew (er ∙ ap (λ (x : Wdl). in_some x odd even) et ∙ ap (λ (x : Reading). in_some (opposite v) x even) eo ∙ ap (λ (x : Reading). in_some (opposite v) (extreme_value tables true p) x) ee)
