-- The distance that is told meets its rule.
use Rattle.std.proofs.Common.{◌≡◌, ◌∙◌, ◌⊎◌, inl, inr, sym, ap, refl, nat_le, Bool, true, false, Option, Some, None, Ok, Err}
use Rattle.board_core.specs.declared.parts.Parts.{Parts}
use Rattle.board_core.specs.Position.{IsPosition}
use Rattle.board_core.specs.ComputedMoves.{count_of_men}
use Rattle.judge_core.specs.declared.distance.Distance.{Distance}
use Rattle.judge_core.specs.declared.distance.Distance.TheVariants.{Draw as NoDistance}
use Rattle.judge_core.specs.declared.fault.ValueFault.{ValueFault}
use Rattle.judge_core.specs.Tables.{Tables}
use Rattle.judge_core.specs.Distances.{Reach, dtz_to, dtz_of}
use Rattle.judge_core.specs.Determined.{IsDeterminedDistance, IsDeterminedReach, IsDistanceByValue, OfDraw, OfCapture, OfPawnMove, IsDistanceByOwnTable}
use Rattle.judge_core.specs.Inside.Determined.{distance_in_both, extreme_searched, or_agreed_distance, told_reach, distance_by_own_table, determined_reach}
use Rattle.judge_core.proofs.Kept.{strict_distance}
use Rattle.judge_core.proofs.Zeroing.{IsMany, opened, told}
use Rattle.judge_core.proofs.ByValue.{by_value}
use Rattle.judge_core.proofs.ValueTold.{by_value_told}
use Rattle.judge_core.proofs.OwnTableTold.{from_own_table, to_own_table, by_own_table_determined}
use Rattle.judge_core.proofs.Completing.{one_distance}

module _ (tables : Tables) (p : Parts) (position : IsPosition p) where
  never_few : (fault : ValueFault) → dtz_of tables p ≡ Err fault → IsMany p
  never_few fault e = step (nat_le (count_of_men p) 2) refl
    where
      step : (t : Bool) → nat_le (count_of_men p) 2 ≡ t → nat_le (count_of_men p) 2 ≡ false
      step true et = absurd (let none : Ok NoDistance ≡ Err fault = sym (opened tables p ∙ rw et refl) ∙ e in cc)
      step false et = et

  -- ---- what the value tells

  value_told : (d : Distance) → IsDistanceByValue tables p d → told_reach tables p ≡ Ok d
  value_told d by = ap (λ (r : Reach). or_agreed_distance r (distance_in_both tables p)) (opened tables p) ∙ by_value_told tables p position (dtz_to tables 1) d by

  from_value : (d : Distance) → told_reach tables p ≡ Ok d → (dtz_of tables p ≡ Ok d) ⊎ IsDistanceByValue tables p d
  from_value d = step (dtz_of tables p) refl (distance_in_both tables p) refl
    where
      step : (r : Reach) → dtz_of tables p ≡ r → (o : Option Distance) → distance_in_both tables p ≡ o → or_agreed_distance r o ≡ Ok d → (dtz_of tables p ≡ Ok d) ⊎ IsDistanceByValue tables p d
      step (Ok x) er o eo e = inl (er ∙ e)
      step (Err fault) er None eo e = absurd (cc)
      step (Err fault) er (Some x) eo e =
          let same : x ≡ d = cc in
          inr (by_value tables p position (never_few fault er) (extreme_searched tables true p) (extreme_searched tables false p) refl refl d (eo ∙ ap (λ (y : Distance). Some y) same))

  told_fault : (fault : ValueFault) → told_reach tables p ≡ Err fault → dtz_of tables p ≡ Err fault
  told_fault fault = step (dtz_of tables p) refl (distance_in_both tables p)
    where
      step : (r : Reach) → dtz_of tables p ≡ r → (o : Option Distance) → or_agreed_distance r o ≡ Err fault → dtz_of tables p ≡ Err fault
      step (Ok x) er o e = absurd (cc)
      step (Err other) er None e = er ∙ e
      step (Err other) er (Some x) e = absurd (cc)

  told_determined : (d : Distance) → told_reach tables p ≡ Ok d → IsDeterminedDistance tables p d
  told_determined d = step (dtz_of tables p) refl (distance_in_both tables p) refl
    where
      step : (r : Reach) → dtz_of tables p ≡ r → (o : Option Distance) → distance_in_both tables p ≡ o → or_agreed_distance r o ≡ Ok d → IsDeterminedDistance tables p d
      step (Ok x) er o eo e = λ more c. strict_distance tables more p position c d (er ∙ e)
      step (Err fault) er None eo e = absurd (cc)
      step (Err fault) er (Some x) eo e = (let same : x ≡ d = cc in told tables p position (never_few fault er) d (eo ∙ ap (λ (y : Distance). Some y) same))

  -- ---- what the own table tells

  own_table_told : (d : Distance) → IsDistanceByOwnTable tables p d → or_agreed_distance (told_reach tables p) (distance_by_own_table tables p) ≡ Ok d
  own_table_told d by = step (told_reach tables p) refl (to_own_table tables p position d by)
    where
      step : (r : Reach) → told_reach tables p ≡ r → distance_by_own_table tables p ≡ Some d → or_agreed_distance r (distance_by_own_table tables p) ≡ Ok d
      step (Ok x) er e = ap (λ (y : Distance). Ok y) (one_distance tables p x d (told_determined x er) (by_own_table_determined tables p position d by))
      step (Err fault) er e = rw e refl

pub is_determined_reach : (tables : Tables) (p : Parts) → IsPosition p → IsDeterminedReach tables p (determined_reach tables p)
unfolding determined_reach
is_determined_reach tables p position = record {
  kept = kept;
  determined = λ d. all_determined d (told_reach tables p) refl (distance_by_own_table tables p) refl;
  fault_is = λ fault. faulty fault (told_reach tables p) refl (distance_by_own_table tables p);
  only = λ d. only_by d (told_reach tables p) refl (distance_by_own_table tables p) refl;
  draw = λ is. by_its_value NoDistance (OfDraw is refl);
  capture = λ v outcome is eo captures. by_its_value _ (OfCapture v outcome is eo captures refl);
  pawn = λ v outcome is eo won by. by_its_value _ (OfPawnMove v outcome is eo won by refl);
  own_table = own_table_told tables p position;
}
  where
    kept : (d : Distance) → dtz_of tables p ≡ Ok d → or_agreed_distance (told_reach tables p) (distance_by_own_table tables p) ≡ Ok d
    kept d e = rw e refl

    by_its_value : (d : Distance) → IsDistanceByValue tables p d → or_agreed_distance (told_reach tables p) (distance_by_own_table tables p) ≡ Ok d
    by_its_value d by = ap (λ (r : Reach). or_agreed_distance r (distance_by_own_table tables p)) (value_told tables p position d by)

    all_determined : (d : Distance) (r : Reach) → told_reach tables p ≡ r → (o : Option Distance) → distance_by_own_table tables p ≡ o → or_agreed_distance r o ≡ Ok d → IsDeterminedDistance tables p d
    all_determined d (Ok x) er o eo e = told_determined tables p position d (er ∙ e)
    all_determined d (Err fault) er (Some x) eo e = (let same : x ≡ d = cc in by_own_table_determined tables p position d (from_own_table tables p position d (eo ∙ ap (λ (y : Distance). Some y) same)))
    all_determined d (Err fault) er None eo e = absurd (cc)

    only_by : (d : Distance) (r : Reach) → told_reach tables p ≡ r → (o : Option Distance) → distance_by_own_table tables p ≡ o → or_agreed_distance r o ≡ Ok d
        → (dtz_of tables p ≡ Ok d) ⊎ (IsDistanceByValue tables p d ⊎ IsDistanceByOwnTable tables p d)
    only_by d (Ok x) er o eo e = elim (from_value tables p position d (er ∙ e)) [
      | inl own ↦ inl own
      | inr by ↦ inr (inl by)
    ]
    only_by d (Err fault) er (Some x) eo e = (let same : x ≡ d = cc in inr (inr (from_own_table tables p position d (eo ∙ ap (λ (y : Distance). Some y) same))))
    only_by d (Err fault) er None eo e = absurd (cc)

    faulty : (fault : ValueFault) (r : Reach) → told_reach tables p ≡ r → (o : Option Distance) → or_agreed_distance r o ≡ Err fault → dtz_of tables p ≡ Err fault
    faulty fault (Ok x) er o e = absurd (cc)
    faulty fault (Err other) er (Some x) e = absurd (cc)
    faulty fault (Err other) er None e = told_fault tables p position fault (er ∙ e)
