-- What both probes tell by readings, and the verdict.
use Rattle.std.proofs.Common.{◌≡◌, ◌≢◌, ◌≤◌, ◌∙◌, sym, ap, refl, true, false, Bool, Option, Some, None, Result, Ok, Err, cond}
use Rattle.std.specs.Prelude.{ℤ}
use Rattle.board_core.specs.declared.parts.Parts.{Parts}
use Rattle.board_core.specs.declared.verdict.Verdict.{Verdict}
use Rattle.board_core.specs.ComputedMoves.{legal_moves, count_of_men}
use Rattle.judge_core.specs.declared.fault.ValueFault.{ValueFault}
use Rattle.judge_core.specs.declared.fault.ValueFault.TheVariants.{NotCovered, Damaged}
use Rattle.judge_core.specs.declared.fault.ProbeFault.{ProbeFault}
use Rattle.judge_core.specs.declared.fault.ProbeFault.TheVariants.{OutOfScope, OutOfMemory}
use Rattle.judge_core.specs.declared.distance.Distance.TheVariants.{Draw}
use Rattle.judge_core.specs.declared.probe_result.ProbeResult.{ProbeResult}
use Rattle.judge_core.specs.Answers.{IsProbe, as_probe, signed_in}
use Rattle.judge_core.specs.Distances.{Reach, dtz_by, dtz_to, dtz_of}
use Rattle.board_core.specs.Ends.{has_no_move}
use Rattle.judge_core.specs.Probing.{wdl_of}
use Rattle.judge_core.specs.Ruling.{end_of, is_out_of_scope, ruling, ruling_by}
use Rattle.judge_core.specs.Tables.{Tables}
use Rattle.judge_core.specs.ProbeResult.{IsProbed, numbered, wdl_number}
use Rattle.judge_core.specs.Values.{Reading}
use Rattle.judge_core.proofs.Reaching.{few_men}

pub answered : {X : Type 0} (r : Result X ValueFault) → as_probe (λ x. x) r ≢ Err OutOfMemory
answered (Ok x) e = absurd cc
answered (Err (NotCovered key)) e = absurd cc
answered (Err (Damaged key)) e = absurd cc

pub is_probe : {X : Type 0} (r reading : Result X ValueFault) (outside : Bool) → outside ≡ false → r ≡ reading → IsProbe (as_probe (λ x. x) r) outside reading
is_probe (Ok x) reading outside scope e = (scope, sym e)
is_probe (Err (NotCovered key)) reading outside scope e = (scope, sym e)
is_probe (Err (Damaged key)) reading outside scope e = (scope, sym e)

pub is_numbered : (value : Reading) → numbered (as_probe (λ x. x) value) ≡ as_probe wdl_number value
is_numbered (Ok v) = refl
is_numbered (Err fault) = refl

module _ (tables : Tables) (p : Parts) where
  pub probed_by : (value : Reading) (reach : Reach) (probed : ProbeResult) → is_out_of_scope p ≡ false → value ≡ wdl_of tables p → reach ≡ dtz_of tables p
      → probed.wdl ≡ as_probe wdl_number value → probed.dtz ≡ as_probe (λ n. n) (signed_in reach) → IsProbed tables p probed
  probed_by value reach probed scope ev er ew ed = record {
    wdl = as_probe (λ x. x) value;
    dtz = as_probe (λ x. x) (signed_in reach);
    are = record {
      wdl_answered = answered value;
      wdl_is = is_probe value (wdl_of tables p) (is_out_of_scope p) scope ev;
      dtz_answered = answered (signed_in reach);
      dtz_is = is_probe (signed_in reach) (signed_in (dtz_of tables p)) (is_out_of_scope p) scope (ap signed_in er);
    };
    told = (let w = ew ∙ sym (is_numbered value) in rw (← w, ← ed) refl);
  }

  pub probed_outside : is_out_of_scope p ≡ true → IsProbed tables p (record { wdl = Err OutOfScope; dtz = Err OutOfScope })
  probed_outside outside = record {
    wdl = Err OutOfScope;
    dtz = Err OutOfScope;
    are = record { wdl_answered = λ e. absurd cc; wdl_is = outside; dtz_answered = λ e. absurd cc; dtz_is = outside };
    told = refl;
  }

  pub ruled_outside : (verdict : Option Verdict) → is_out_of_scope p ≡ true → verdict ≡ cond (has_no_move (legal_moves p)) (Some (end_of p)) None → verdict ≡ ruling tables p
  unfolding ruling
  ruled_outside verdict outside e = e ∙ rw outside refl

  pub ruled_inside : (value : Reading) (reach : Reach) (verdict : Option Verdict) → is_out_of_scope p ≡ false → value ≡ wdl_of tables p → reach ≡ dtz_of tables p
      → verdict ≡ cond (has_no_move (legal_moves p)) (Some (end_of p)) (ruling_by p value reach) → verdict ≡ ruling tables p
  unfolding ruling
  ruled_inside value reach verdict scope ev er e = e ∙ rw (scope, ev, er) refl

-- bare kings
pub bare_reach : (tables : Tables) (p : Parts) → count_of_men p ≤ 2 → Ok Draw ≡ dtz_of tables p
unfolding dtz_of
bare_reach tables p few = few_men tables 2 p few

-- a distance that is told by the rules, where those after quiet moves visit one position
pub dtz_probe : (tables : Tables) (p : Parts) (r : Reach) (dtz : Result ℤ ProbeFault) → is_out_of_scope p ≡ false → r ≡ dtz_by tables (dtz_to tables 1) p → dtz ≡ as_probe (λ n. n) (signed_in r) → IsProbe dtz (is_out_of_scope p) (signed_in (dtz_of tables p))
unfolding dtz_of dtz_to
dtz_probe tables p r dtz inside er ed = rw ed (is_probe (signed_in r) (signed_in (dtz_of tables p)) (is_out_of_scope p) inside (ap signed_in er))
