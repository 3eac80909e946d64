-- No pawn move reaches a value in any completion, exactly where none does by what lies between the two completions that decide.
use Rattle.std.proofs.Common.{◌≡◌, ◌∙◌, sym, ap, refl, Bool, true, false, not, ◌&&◌, ◌||◌, cond, List, [], ◌∷◌, Option, Some, None, filter, Result, Ok, Err, arith}
use Rattle.std.specs.List.{list_any}
use Rattle.std.proofs.lemmas.Bool.{ltb-true, false≢true}
use Rattle.board_core.specs.declared.parts.Parts.{Parts}
use Rattle.board_core.specs.declared.moves.Move.{Move}
use Rattle.board_core.specs.Position.{IsPosition}
use Rattle.board_core.specs.ComputedMoves.{position_after, legal_moves, count_of_men}
use Rattle.judge_core.specs.declared.fault.ValueFault.{ValueFault}
use Rattle.judge_core.specs.declared.wdl.Wdl.{Wdl}
use Rattle.judge_core.specs.declared.wdl.Wdl.TheVariants.{Loss, BlessedLoss, Draw, CursedWin, Win}
use Rattle.judge_core.specs.Values.{Reading, points, opposite, opposite_reading, is_same, is_below}
use Rattle.judge_core.specs.Tables.{Tables}
use Rattle.judge_core.specs.Asked.{asked, fault_in}
use Rattle.judge_core.specs.Probing.{values_after, wdl_where}
use Rattle.judge_core.specs.Distances.{is_value, is_pawn_step, pawns_reach_where}
use Rattle.judge_core.specs.Determined.{IsCompletion, IsOutOfReach}
use Rattle.judge_core.specs.Inside.Determined.{is_won_here, extreme, extreme_value, lies_outside, in_some, value_in_some, pawns_reach_in_some, is_missed}
use Rattle.judge_core.proofs.Rule.{still}
use Rattle.judge_core.proofs.Kept.{unless_ok, no_fault_more}
use Rattle.judge_core.proofs.Completed.{IsBound, value_bound, extreme-completes, is_same-true, is_same-refl}
use Rattle.judge_core.proofs.Zeroing.{opposite-twice}
use Rattle.judge_core.proofs.PawnWins.{both_there, turned-ok}
use Rattle.judge_core.proofs.Aimed.{aimed, aimed-completes, seen, between_aimed}

-- ---- lists

or_false : (a b : Bool) → (a || b) ≡ false → (a ≡ false) × (b ≡ false)
or_false true b e = absurd (false≢true (sym e))
or_false false b e = (refl, e)

-- the second has a value where the first has, and misses this one where the first does
abbrev pub Misses : Wdl → Reading → Reading → Type 0
Misses v r s = (x : Wdl) → r ≡ Ok x → is_value v (Ok x) ≡ false → (y : Wdl) × (s ≡ Ok y) × (is_value v (Ok y) ≡ false)

module _ (v : Wdl) (say say' : Parts → Reading) (p : Parts) (t : Move → Bool) (h : (m : Move) (q : Parts) → t m ≡ true → position_after p m ≡ Some q → Misses v (say q) (say' q)) where
  abbrev pub AllMissed : (Parts → Reading) → List Move → Type 0
  AllMissed f ms = (fault_in (asked f p (filter t ms)) ≡ None) × (list_any (is_value v) (asked f p (filter t ms)) ≡ false)

  pub all_missed : (ms : List Move) → AllMissed say ms → AllMissed say' ms
  all_missed [] both = (refl, refl)
  all_missed (m ∷ ms) both = step (all_missed ms) (t m) (position_after p m) refl refl both
    where
      step : (AllMissed say ms → AllMissed say' ms) → (b : Bool) (o : Option Parts) → t m ≡ b → position_after p m ≡ o → AllMissed say (m ∷ ms) → AllMissed say' (m ∷ ms)
      step rest false o et eo both = rw et (rest (rw et at both.0, rw et at both.1))
      step rest true None et eo both = rw (et, eo) (rest (rw (et, eo) at both.0, rw (et, eo) at both.1))
      step rest true (Some q) et eo both =
          let there = no_fault_more (say q) (asked say p (filter t ms)) (rw (et, eo) at both.0) in
          let apart = or_false (is_value v (say q)) (list_any (is_value v) (asked say p (filter t ms))) (rw (et, eo) at both.1) in
          let it = h m q et eo there.0.0 there.0.1 (sym (ap (is_value v) there.0.1) ∙ apart.0) in
          let after = rest (there.1, apart.1) in
          (rw (et, eo, it.1) after.0, rw (et, eo, it.1, it.2) after.1)

module _ (v : Wdl) (f g say : Parts → Reading) (p : Parts) (t : Move → Bool) (each : (m : Move) (q : Parts) → position_after p m ≡ Some q → is_value v (f q) ≡ false → is_value v (g q) ≡ false → is_value v (say q) ≡ false) where
  -- what two miss, the third one misses
  pub third_misses : (ms : List Move) → list_any (is_value v) (asked f p (filter t ms)) ≡ false → list_any (is_value v) (asked g p (filter t ms)) ≡ false → list_any (is_value v) (asked say p (filter t ms)) ≡ false
  third_misses [] ef eg = refl
  third_misses (m ∷ ms) ef eg = step (third_misses ms) (t m) (position_after p m) refl refl ef eg
    where
      step : (list_any (is_value v) (asked f p (filter t ms)) ≡ false → list_any (is_value v) (asked g p (filter t ms)) ≡ false → list_any (is_value v) (asked say p (filter t ms)) ≡ false) → (b : Bool) (o : Option Parts) → t m ≡ b → position_after p m ≡ o
          → list_any (is_value v) (asked f p (filter t (m ∷ ms))) ≡ false → list_any (is_value v) (asked g p (filter t (m ∷ ms))) ≡ false → list_any (is_value v) (asked say p (filter t (m ∷ ms))) ≡ false
      step rest false o et eo ef eg = rw et (rest (rw et at ef) (rw et at eg))
      step rest true None et eo ef eg = rw (et, eo) (rest (rw (et, eo) at ef) (rw (et, eo) at eg))
      step rest true (Some q) et eo ef eg =
          let one = or_false (is_value v (f q)) (list_any (is_value v) (asked f p (filter t ms))) (rw (et, eo) at ef) in
          let other = or_false (is_value v (g q)) (list_any (is_value v) (asked g p (filter t ms))) (rw (et, eo) at eg) in
          rw (et, eo, each m q eo one.0 other.0) (rest one.1 other.1)

-- ---- one position

below_itself : (v : Wdl) → is_below v v ≡ false
below_itself Loss = refl
below_itself BlessedLoss = refl
below_itself Draw = refl
below_itself CursedWin = refl
below_itself Win = refl

-- what has not the opposite value misses this one
apart : (v y : Wdl) → (y ≡ opposite v → ⊥) → is_value v (Ok (opposite y)) ≡ false
apart v y other = step (is_same (opposite y) v) refl
  where
    step : (b : Bool) → is_same (opposite y) v ≡ b → is_same (opposite y) v ≡ false
    step true e = absurd (other (sym (opposite-twice y) ∙ ap opposite (is_same-true (opposite y) v e)))
    step false e = e

-- a reading between two has no value that lies outside both
bounded : (won : Bool) (v a b y : Wdl) → IsBound won (Ok y) (Ok a) → IsBound (not won) (Ok y) (Ok b) → lies_outside v a b ≡ true → y ≡ v → ⊥
bounded won v a b y ha hb out e = step won (is_below v a) (is_below v b) (is_below a v) (is_below b v) refl refl refl refl ha hb out
  where
    same : points y ≡ points v
    same = ap points e

    step : (won s t u w : Bool) → is_below v a ≡ s → is_below v b ≡ t → is_below a v ≡ u → is_below b v ≡ w → IsBound won (Ok y) (Ok a) → IsBound (not won) (Ok y) (Ok b) → ((s && t) || (u && w)) ≡ true → ⊥
    step true true true u w es et eu ew ha hb e = (let lt = ltb-true (points v) (points b) et in omega (arith, lt, hb, same))
    step false true true u w es et eu ew ha hb e = (let lt = ltb-true (points v) (points a) es in omega (arith, lt, ha, same))
    step true true false true true es et eu ew ha hb e = (let lt = ltb-true (points a) (points v) eu in omega (arith, lt, ha, same))
    step false true false true true es et eu ew ha hb e = (let lt = ltb-true (points b) (points v) ew in omega (arith, lt, hb, same))
    step won true false true false es et eu ew ha hb e = false≢true e
    step won true false false w es et eu ew ha hb e = false≢true e
    step true false t true true es et eu ew ha hb e = (let lt = ltb-true (points a) (points v) eu in omega (arith, lt, ha, same))
    step false false t true true es et eu ew ha hb e = (let lt = ltb-true (points b) (points v) ew in omega (arith, lt, hb, same))
    step won false t true false es et eu ew ha hb e = false≢true e
    step won false t false w es et eu ew ha hb e = false≢true e

no_bound : (won : Bool) (a : Wdl) (fault : ValueFault) → IsBound won (Err fault) (Ok a) → ⊥
no_bound true a fault h = h
no_bound false a fault h = h

module _ (tables : Tables) (v : Wdl) (q : Parts) (position : IsPosition q) where
  -- where it is missed by what lies between the two, every completion misses it
  pub missed_in_each : (own : Parts → Reading) → IsCompletion tables own → Misses v (opposite_reading (value_in_some tables (opposite v) q)) (opposite_reading (wdl_where own q))
  unfolding value_in_some
  missed_in_each own completes x e missed = by_bounds (extreme_value tables true q) (extreme_value tables false q) (wdl_where own q) refl refl refl (value_bound tables own completes true q position) (value_bound tables own completes false q position)
    where
      by_bounds : (a b r : Reading) → extreme_value tables true q ≡ a → extreme_value tables false q ≡ b → wdl_where own q ≡ r → IsBound (is_won_here true (count_of_men q)) r a → IsBound (is_won_here false (count_of_men q)) r b
          → (y : Wdl) × (opposite_reading r ≡ Ok y) × (is_value v (Ok y) ≡ false)
      by_bounds (Ok a) (Ok b) (Ok y) ea eb er ha hb = step (lies_outside (opposite v) a b) refl (rw (ea, eb) at e)
        where
          step : (t : Bool) → lies_outside (opposite v) a b ≡ t → opposite_reading (cond t (Ok a) (Ok (opposite v))) ≡ Ok x → (y' : Wdl) × (opposite_reading (Ok y) ≡ Ok y') × (is_value v (Ok y') ≡ false)
          step true out ex = (opposite y, refl, apart v y (bounded (is_won_here true (count_of_men q)) (opposite v) a b y ha hb out))
          step false out ex =
              let same : opposite (opposite v) ≡ x = cc in
              absurd (false≢true (sym missed ∙ ap (λ (z : Wdl). is_same z v) (sym same ∙ opposite-twice v) ∙ is_same-refl v))
      by_bounds (Ok a) (Ok b) (Err fault) ea eb er ha hb = absurd (no_bound (is_won_here true (count_of_men q)) a fault ha)
      by_bounds (Ok a) (Err fault) r ea eb er ha hb = absurd (let e' = rw (ea, eb) at e in cc)
      by_bounds (Err fault) b r ea eb er ha hb = absurd (let e' = rw ea at e in cc)

  -- where both completions that are aimed at it miss it, nothing that lies between the two reaches it
  pub missed_between : is_value v (opposite_reading (wdl_where (aimed tables (opposite v)) q)) ≡ false → is_value v (opposite_reading (wdl_where (aimed tables (opposite (opposite v))) q)) ≡ false → is_value v (opposite_reading (value_in_some tables (opposite v) q)) ≡ false
  unfolding value_in_some
  missed_between one other = by_readings (extreme_value tables true q) (extreme_value tables false q) refl refl
    where
      outside_itself : (a b : Wdl) → lies_outside (opposite v) a b ≡ true → a ≡ opposite v → ⊥
      outside_itself a b out e =
          let here : lies_outside (opposite v) (opposite v) b ≡ true = ap (λ (x : Wdl). lies_outside (opposite v) x b) (sym e) ∙ out in
          false≢true (rw (below_itself (opposite v)) at here)

      reached : (r : Reading) → r ≡ Ok (opposite v) → is_value v (opposite_reading r) ≡ false → ⊥
      reached r er miss =
          let is : is_value v (Ok (opposite (opposite v))) ≡ false = ap (λ (x : Reading). is_value v (opposite_reading x)) (sym er) ∙ miss in
          false≢true (sym is ∙ ap (λ (z : Wdl). is_same z v) (opposite-twice v) ∙ is_same-refl v)

      by_aim : (b : Bool) → wdl_where (aimed tables (seen b (opposite v))) q ≡ Ok (opposite v) → ⊥
      by_aim true e = reached _ e one
      by_aim false e = reached _ e other

      by_readings : (a b : Reading) → extreme_value tables true q ≡ a → extreme_value tables false q ≡ b → is_value v (opposite_reading (in_some (opposite v) a b)) ≡ false
      by_readings (Ok a) (Ok b) ea eb = step (lies_outside (opposite v) a b) refl
        where
          step : (t : Bool) → lies_outside (opposite v) a b ≡ t → is_value v (opposite_reading (cond t (Ok a) (Ok (opposite v)))) ≡ false
          step true out = apart v a (outside_itself a b out)
          step false out = absurd (by_aim (is_won_here true (count_of_men q)) (between_aimed tables q position (opposite v) a b ea eb out))
      by_readings (Ok a) (Err fault) ea eb = refl
      by_readings (Err fault) b ea eb = refl

-- ---- all pawn moves

is_missed-true : (r : Result Bool ValueFault) → is_missed r ≡ true → r ≡ Ok false
is_missed-true (Ok true) e = absurd (false≢true e)
is_missed-true (Ok false) e = refl
is_missed-true (Err fault) e = absurd (false≢true e)

in_some-there : (v : Wdl) (a b : Reading) (x y : Wdl) → a ≡ Ok x → b ≡ Ok y → (z : Wdl) × (in_some v a b ≡ Ok z)
in_some-there v a b x y ea eb = step (lies_outside v x y) refl
  where
    step : (t : Bool) → lies_outside v x y ≡ t → (z : Wdl) × (in_some v a b ≡ Ok z)
    step true e = (x, rw (ea, eb, e) refl)
    step false e = (v, rw (ea, eb, e) refl)

module _ (tables : Tables) (p : Parts) (position : IsPosition p) (v : Wdl) where
  pub from_missed : is_missed (pawns_reach_in_some tables p v) ≡ true → IsOutOfReach tables p v
  unfolding pawns_reach_where
  from_missed e own completes =
      let say : Parts → Reading = λ q. opposite_reading (value_in_some tables (opposite v) q) in
      let say' : Parts → Reading = λ q. opposite_reading (wdl_where own q) in
      let parts = unless_ok _ _ false (is_missed-true _ e) in
      let none : Ok (list_any (is_value v) (values_after (value_in_some tables (opposite v)) p (filter (is_pawn_step p) (legal_moves p)))) ≡ Ok false = parts.1 in
      let any : list_any (is_value v) (values_after (value_in_some tables (opposite v)) p (filter (is_pawn_step p) (legal_moves p))) ≡ false = cc in
      let all = all_missed v say say' p (is_pawn_step p) (λ m q t a. missed_in_each tables v q (still p q m position a) own completes) (legal_moves p) (parts.0, any) in
      rw (all.0, all.1) refl

  module _ (by : IsOutOfReach tables p v) where
    there : (own : Parts → Reading) → IsCompletion tables own → fault_in (values_after (wdl_where own) p (filter (is_pawn_step p) (legal_moves p))) ≡ None
    unfolding pawns_reach_where
    there own completes = (unless_ok _ _ false (by own completes)).0

    missed : (own : Parts → Reading) → IsCompletion tables own → list_any (is_value v) (values_after (wdl_where own) p (filter (is_pawn_step p) (legal_moves p))) ≡ false
    unfolding pawns_reach_where
    missed own completes =
        let is : Ok (list_any (is_value v) (values_after (wdl_where own) p (filter (is_pawn_step p) (legal_moves p)))) ≡ Ok false = (unless_ok _ _ false (by own completes)).1 in
        cc

    pub to_missed : is_missed (pawns_reach_in_some tables p v) ≡ true
    unfolding pawns_reach_where value_in_some
    to_missed =
        let f : Parts → Reading = λ q. opposite_reading (extreme_value tables true q) in
        let g : Parts → Reading = λ q. opposite_reading (extreme_value tables false q) in
        let h : Parts → Reading = λ q. opposite_reading (in_some (opposite v) (extreme_value tables true q) (extreme_value tables false q)) in
        let one : Parts → Reading = λ q. opposite_reading (wdl_where (aimed tables (opposite v)) q) in
        let other : Parts → Reading = λ q. opposite_reading (wdl_where (aimed tables (opposite (opposite v))) q) in
        let none =
        both_there f g h p (is_pawn_step p)
        (λ q x y ex ey. (
        let a = turned-ok (extreme_value tables true q) x ex in
        let b = turned-ok (extreme_value tables false q) y ey in
        let z = in_some-there (opposite v) (extreme_value tables true q) (extreme_value tables false q) a.0 b.0 a.1 b.1 in
        (opposite z.0, ap opposite_reading z.1)))
        (legal_moves p) (there (extreme tables true) (extreme-completes tables true)) (there (extreme tables false) (extreme-completes tables false)) in
        let misses =
        third_misses v one other h p (is_pawn_step p) (λ m q a. missed_between tables v q (still p q m position a)) (legal_moves p)
        (missed (aimed tables (opposite v)) (aimed-completes tables (opposite v))) (missed (aimed tables (opposite (opposite v))) (aimed-completes tables (opposite (opposite v)))) in
        rw (none, misses) refl
