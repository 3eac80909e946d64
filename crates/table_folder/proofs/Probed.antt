-- What both probes miss.
use Rattle.std.proofs.Common.{◌≡◌, ◌≢◌, ℕ, Bool, false, Result, Ok, Err, refl, sym, ap, ◌∙◌, inl, inr}
use Rattle.board_core.specs.declared.parts.Parts.{Parts}
use Rattle.table_file.specs.declared.kind.TableKind.{TableKind}
use Rattle.judge_core.specs.declared.wdl.Wdl.{Wdl as Value}
use Rattle.judge_core.specs.declared.fault.ValueFault.{ValueFault}
use Rattle.judge_core.specs.declared.fault.ValueFault.TheVariants as value
use Rattle.judge_core.specs.declared.fault.ProbeFault.{ProbeFault}
use Rattle.judge_core.specs.declared.fault.ProbeFault.TheVariants.{OutOfScope, NotCovered, Damaged, OutOfMemory}
use Rattle.judge_core.specs.declared.probe_result.ProbeResult.{ProbeResult}
use Rattle.judge_core.specs.Answers.{IsProbe, signed_in}
use Rattle.judge_core.specs.Distances.{Reach, dtz_of}
use Rattle.judge_core.specs.Probing.{wdl_of}
use Rattle.judge_core.specs.ProbeResult.{IsProbed, numbered}
use Rattle.judge_core.specs.Ruling.{is_out_of_scope}
use Rattle.judge_core.specs.Tables.{Tables}
use Rattle.table_folder.specs.Inside.{MissesBy}
use Rattle.table_folder.specs.Settled.{Misses}

-- a probe that misses a table is in scope, and its reading misses it
missed_reading : {X : Type 0} (r : Result X ProbeFault) (outside : Bool) (reading : Result X ValueFault) (key : ℕ) → IsProbe r outside reading → r ≡ Err (NotCovered key) → (outside ≡ false) × (reading ≡ Err (value.NotCovered key))
missed_reading (Ok x) outside reading key is e = absurd cc
missed_reading (Err OutOfScope) outside reading key is e = absurd cc
missed_reading (Err (NotCovered k)) outside reading key is e = let same : k ≡ key = cc in (is.0, is.1 ∙ ap (λ n. Err (value.NotCovered n)) same)
missed_reading (Err (Damaged k)) outside reading key is e = absurd cc
missed_reading (Err OutOfMemory) outside reading key is e = absurd cc

-- and the other way round
missed_probe : {X : Type 0} (r : Result X ProbeFault) (outside : Bool) (reading : Result X ValueFault) (key : ℕ) → r ≢ Err OutOfMemory → IsProbe r outside reading → outside ≡ false → reading ≡ Err (value.NotCovered key) → r ≡ Err (NotCovered key)
missed_probe (Ok x) outside reading key told is in_scope e = let same = is.1 in absurd cc
missed_probe (Err OutOfScope) outside reading key told is in_scope e = absurd cc
missed_probe (Err (NotCovered k)) outside reading key told is in_scope e = let same = is.1 in cc
missed_probe (Err (Damaged k)) outside reading key told is in_scope e = let same = is.1 in absurd cc
missed_probe (Err OutOfMemory) outside reading key told is in_scope e = absurd (told refl)

number_missed : (wdl : Result Value ProbeFault) (key : ℕ) → numbered wdl ≡ Err (NotCovered key) → wdl ≡ Err (NotCovered key)
number_missed (Ok v) key e = absurd cc
number_missed (Err fault) key e = let same : fault ≡ NotCovered key = cc in ap Err same

reach_missed : (reach : Reach) (key : ℕ) → signed_in reach ≡ Err (value.NotCovered key) → reach ≡ Err (value.NotCovered key)
reach_missed (Ok d) key e = absurd cc
reach_missed (Err fault) key e = let same : fault ≡ value.NotCovered key = cc in ap Err same

-- what is missed by both probes is missed at the position
pub misses_at : (tables : Tables) (p : Parts) (probed : ProbeResult) (kind : TableKind) (key : ℕ) → IsProbed tables p probed → MissesBy tables probed kind key → Misses tables p kind key
misses_at tables p probed kind key is (lacks, inl (wdl, e)) =
    let both = missed_reading is.wdl (is_out_of_scope p) (wdl_of tables p) key is.are.wdl_is (number_missed is.wdl key (sym (ap (λ x. x.wdl) is.told) ∙ e)) in
    (both.0, lacks, inl (wdl, both.1))
misses_at tables p probed kind key is (lacks, inr e) =
    let both = missed_reading is.dtz (is_out_of_scope p) (signed_in (dtz_of tables p)) key is.are.dtz_is (sym (ap (λ x. x.dtz) is.told) ∙ e) in
    (both.0, lacks, inr (reach_missed (dtz_of tables p) key both.1))

pub misses_by : (tables : Tables) (p : Parts) (probed : ProbeResult) (kind : TableKind) (key : ℕ) → IsProbed tables p probed → Misses tables p kind key → MissesBy tables probed kind key
misses_by tables p probed kind key is (in_scope, lacks, inl (wdl, e)) =
    let missed = missed_probe is.wdl (is_out_of_scope p) (wdl_of tables p) key is.are.wdl_answered is.are.wdl_is in_scope e in
    (lacks, inl (wdl, ap (λ x. x.wdl) is.told ∙ ap numbered missed))
misses_by tables p probed kind key is (in_scope, lacks, inr e) =
    let missed = missed_probe is.dtz (is_out_of_scope p) (signed_in (dtz_of tables p)) key is.are.dtz_answered is.are.dtz_is in_scope (ap signed_in e) in
    (lacks, inr (ap (λ x. x.dtz) is.told ∙ missed))
