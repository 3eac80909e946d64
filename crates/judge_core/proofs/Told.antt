-- What the calls for determined values and distances answer.
use Rattle.std.proofs.Common.{◌≡◌, ◌∙◌, sym, ap, refl, true, false, List, Option, Some, None, Result, Ok, Err, IfOk}
use Rattle.board_core.specs.declared.parts.Parts.{Parts}
use Rattle.board_core.specs.Position.{IsPosition}
use Rattle.judge_core.specs.declared.ask.Ask.TheVariants.{Determined}
use Rattle.judge_core.specs.declared.fault.ProbeFault.{ProbeFault}
use Rattle.judge_core.specs.declared.fault.ProbeFault.TheVariants.{OutOfScope, OutOfMemory}
use Rattle.judge_core.specs.declared.probe_result.ProbeResult.{ProbeResult}
use Rattle.judge_core.specs.declared.root_move.RootMove.{RootMove}
use Rattle.judge_core.specs.declared.wdl.Wdl.{Wdl}
use Rattle.std.specs.Prelude.{ℤ}
use Rattle.judge_core.specs.Values.{Reading}
use Rattle.judge_core.specs.Tables.{Tables}
use Rattle.judge_core.specs.Probing.{wdl_of}
use Rattle.judge_core.specs.Distances.{Reach, dtz_by, dtz_to, dtz_of}
use Rattle.judge_core.specs.Answers.{as_probe, signed_in}
use Rattle.judge_core.specs.ProbeResult.{wdl_number}
use Rattle.judge_core.specs.Root.{IsRootBy, IsInScope}
use Rattle.judge_core.specs.Ruling.{is_out_of_scope}
use Rattle.judge_core.specs.Determined.{IsDeterminedWdl, IsDeterminedDtz, AreDetermined, IsDeterminedRoot}
use Rattle.judge_core.specs.Inside.Determined.{agreed, or_agreed, extreme_value, distance_in_both, or_agreed_distance, distance_by_own_table, reach_after, determined_value, determined_reach, value_as, reach_as}
use Rattle.judge_core.proofs.ByReadings.{answered, is_probe, is_numbered}
use Rattle.judge_core.proofs.Zeroing.{is_determined}
use Rattle.judge_core.proofs.DeterminedReach.{is_determined_reach}

module _ (tables : Tables) (p : Parts) where
  pub value_from : (strict r : Reading) → strict ≡ wdl_of tables p → r ≡ or_agreed strict (agreed (extreme_value tables true p) (extreme_value tables false p)) → r ≡ determined_value tables p
  unfolding determined_value
  value_from strict r e er = er ∙ ap (λ (x : Reading). or_agreed x (agreed (extreme_value tables true p) (extreme_value tables false p))) e

  pub reach_from : (strict told r : Reach) → strict ≡ dtz_of tables p → told ≡ or_agreed_distance strict (distance_in_both tables p) → r ≡ or_agreed_distance told (distance_by_own_table tables p) → r ≡ determined_reach tables p
  unfolding determined_reach
  reach_from strict told r e et er = er ∙ ap (λ (x : Reach). or_agreed_distance x (distance_by_own_table tables p)) (et ∙ ap (λ (x : Reach). or_agreed_distance x (distance_in_both tables p)) e)

  -- what is asked of a position after a quiet move
  pub after_from : (own r : Reach) → own ≡ dtz_by tables (dtz_to tables 0) p → r ≡ or_agreed_distance own (distance_in_both tables p) → r ≡ reach_after tables p
  unfolding reach_after dtz_to
  after_from own r e er = er ∙ ap (λ (x : Reach). or_agreed_distance x (distance_in_both tables p)) e

  module _ (position : IsPosition p) where
    pub wdl_outside : is_out_of_scope p ≡ true → IsDeterminedWdl tables p (Err OutOfScope)
    wdl_outside outside = record {
      reading = determined_value tables p;
      is = is_determined tables p position;
      told = outside;
      answered = λ e. absurd cc;
    }

    pub wdl_inside : (r : Reading) (wdl : Result Wdl ProbeFault) → is_out_of_scope p ≡ false → r ≡ determined_value tables p → wdl ≡ as_probe (λ v. v) r → IsDeterminedWdl tables p wdl
    wdl_inside r wdl inside er ew = record {
      reading = determined_value tables p;
      is = is_determined tables p position;
      told = rw ew (is_probe r (determined_value tables p) (is_out_of_scope p) inside er);
      answered = rw ew (answered r);
    }

    pub dtz_outside : is_out_of_scope p ≡ true → IsDeterminedDtz tables p (Err OutOfScope)
    dtz_outside outside = record { reach = determined_reach tables p; is = is_determined_reach tables p position; told = outside }

    pub dtz_memory : is_out_of_scope p ≡ false → IsDeterminedDtz tables p (Err OutOfMemory)
    dtz_memory inside = record { reach = determined_reach tables p; is = is_determined_reach tables p position; told = inside }

    pub dtz_inside : (r : Reach) (dtz : Result ℤ ProbeFault) → is_out_of_scope p ≡ false → r ≡ determined_reach tables p → dtz ≡ as_probe (λ n. n) (signed_in r) → IsDeterminedDtz tables p dtz
    dtz_inside r dtz inside er ed = record {
      reach = determined_reach tables p;
      is = is_determined_reach tables p position;
      told = rw ed (is_probe (signed_in r) (signed_in (determined_reach tables p)) (is_out_of_scope p) inside (ap signed_in er));
    }

    pub both_outside : (probed : ProbeResult) → is_out_of_scope p ≡ true → probed ≡ record { wdl = Err OutOfScope; dtz = Err OutOfScope } → AreDetermined tables p probed
    both_outside probed outside e = record {
      wdl = Err OutOfScope;
      dtz = Err OutOfScope;
      wdl_is = wdl_outside outside;
      dtz_is = dtz_outside outside;
      dtz_answered = λ o. absurd cc;
      told = e;
    }

    pub both_inside : (value : Reading) (reach : Reach) (probed : ProbeResult) → is_out_of_scope p ≡ false → value ≡ determined_value tables p → reach ≡ determined_reach tables p
        → probed.wdl ≡ as_probe wdl_number value → probed.dtz ≡ as_probe (λ n. n) (signed_in reach) → AreDetermined tables p probed
    both_inside value reach probed inside ev er ew ed = record {
      wdl = as_probe (λ x. x) value;
      dtz = as_probe (λ x. x) (signed_in reach);
      wdl_is = wdl_inside value (as_probe (λ x. x) value) inside ev refl;
      dtz_is = dtz_inside reach (as_probe (λ x. x) (signed_in reach)) inside er refl;
      dtz_answered = answered (signed_in reach);
      told = (let w = ew ∙ sym (is_numbered value) in rw (← w, ← ed) refl);
    }

module _ {V : Type 0} (tables : Tables) (p : Parts) (items : V → List RootMove) where
  in_scope : (o : Option V) → IsInScope (λ v. IsRootBy (value_as Determined tables) (reach_as Determined tables) p (items v)) p o → IsInScope (λ v. IsDeterminedRoot tables p (items v)) p o
  in_scope None h = h
  in_scope (Some v) h = (
    h.0,
    record {
      value = determined_value tables;
      reach = determined_reach tables;
      values = λ q position. is_determined tables q position;
      reaches = λ q position. is_determined_reach tables q position;
      root = h.1;
    },
  )

  pub root_is_determined : {E : Type 0} (result : Result (Option V) E) → IfOk result (λ o. IsInScope (λ v. IsRootBy (value_as Determined tables) (reach_as Determined tables) p (items v)) p o) → IfOk result (λ o. IsInScope (λ v. IsDeterminedRoot tables p (items v)) p o)
  root_is_determined (Ok o) h = in_scope o h
  root_is_determined (Err fault) h = h
