-- What own tables say of positions that were located.
use Rattle.std.proofs.Common.{◌≡◌, ◌∙◌, sym, ap, List, map, Bool, true, false, Result, Ok, Err, refl, ◌≢◌, if◌then◌else◌}
use Rattle.std.proofs.lemmas.Simd.{map-map}
use Rattle.board_core.specs.declared.parts.Parts.{Parts}
use Rattle.judge_core.specs.declared.fault.ProbeFault.{ProbeFault}
use Rattle.judge_core.specs.declared.fault.ProbeFault.TheVariants.{OutOfScope, OutOfMemory}
use Rattle.judge_core.specs.declared.fault.ValueFault.TheVariants as value
use Rattle.judge_core.specs.declared.many.Located.{Located}
use Rattle.judge_core.specs.declared.wdl.Wdl.{Wdl}
use Rattle.judge_core.specs.Answers.{IsProbe, IsWdlProbe, as_probe, wdl_answer}
use Rattle.judge_core.specs.Probing.{wdl_of}
use Rattle.judge_core.specs.Ruling.{is_out_of_scope}
use Rattle.judge_core.specs.Tables.{Holding, Tables, table_value}
use Rattle.judge_core.specs.Values.{Reading}

abbrev position_of : Located → Parts
position_of it = it.probe.now

pub same_values : (h inside : Holding) (all : List Located) (ps : List Parts) (values : List Reading) → inside ≡ h → map (λ (it : Located). it.probe.now) all ≡ ps → values ≡ map (λ (it : Located). table_value inside.tables it.probe.now) all → values ≡ map (table_value h.tables) ps
same_values h inside all ps values same probes is =
    is
    ∙ sym (map-map (table_value inside.tables) position_of all)
    ∙ ap (map (table_value inside.tables)) probes
    ∙ ap (λ (x : Holding). map (table_value x.tables) ps) same

-- what a probe returns of a position in scope
pub answered : (tables : Tables) (p : Parts) (outside : Bool) (reading : Reading) (r : Result Wdl ProbeFault) → outside ≡ is_out_of_scope p → outside ≡ false → reading ≡ wdl_of tables p → r ≡ as_probe (λ v. v) reading → r ≡ wdl_answer tables p
answered tables p outside reading r is inside known e = rw (sym is ∙ inside) (e ∙ ap (as_probe (λ v. v)) known)

abbrev pub Returned : Bool → Reading → Result Wdl ProbeFault → Type 0
Returned outside reading wdl = (wdl ≢ Err OutOfMemory) × IsProbe wdl outside reading

pub returned : (outside : Bool) (reading : Reading) → Returned outside reading (if outside then Err OutOfScope else as_probe (λ v. v) reading)
returned true reading = (λ e. absurd cc, refl)
returned false (Ok v) = (λ e. absurd cc, (refl, refl))
returned false (Err (value.NotCovered key)) = (λ e. absurd cc, (refl, refl))
returned false (Err (value.Damaged key)) = (λ e. absurd cc, (refl, refl))

-- what a probe returns is a probe
pub is_probe : (tables : Tables) (p : Parts) → IsWdlProbe tables p (wdl_answer tables p)
is_probe tables p = returned (is_out_of_scope p) (wdl_of tables p)
