-- The set of the whole folder beside sets of some of its tables.
use Rattle.std.proofs.Common.{◌≡◌, ◌⊎◌, ◌<◌, ◌≤◌, ◌+◌, ◌-◌, ℕ, Bool, false, length, get_or, Option, Some, None, Result, Ok, Err, sym, ap, ◌∙◌, inl, inr, arith}
use Rattle.std.proofs.lemmas.Bool.{cases_lt}
use Rattle.std.proofs.lemmas.List.{ext_get_or, get_or_past}
use Rattle.board_core.specs.declared.parts.Parts.{Parts}
use Rattle.system_io.specs.Disks.{DiskFacts}
use Rattle.table_file.specs.declared.kind.TableKind.{TableKind}
use Rattle.table_file.specs.declared.kind.TableKind.TheVariants.{Wdl, Dtz}
use Rattle.table_file.specs.Tables.{Contents}
use Rattle.judge_core.specs.declared.fault.ProbeFault.{ProbeFault}
use Rattle.judge_core.specs.declared.fault.ProbeFault.TheVariants.{OutOfScope, NotCovered, Damaged, OutOfMemory}
use Rattle.judge_core.specs.declared.fault.ValueFault.{ValueFault}
use Rattle.judge_core.specs.declared.probe_result.ProbeResult.{ProbeResult}
use Rattle.judge_core.specs.Answers.{IsProbe, signed_in}
use Rattle.judge_core.specs.Asked.{not_covered}
use Rattle.judge_core.specs.Distances.{dtz_of}
use Rattle.judge_core.specs.MoreTables.{AnswersTheSame, HasAll, IsFinalDistance, IsFinalValue, MoreTablesAnswerTheSame, WhatIsMissingStaysMissing}
use Rattle.judge_core.specs.ProbeResult.{IsProbed}
use Rattle.judge_core.specs.Probing.{wdl_of}
use Rattle.judge_core.specs.Ruling.{is_out_of_scope}
use Rattle.judge_core.specs.Tables.{Tables, table_at}
use Rattle.table_folder.specs.Folders.{AreOf, Folder}
use Rattle.table_folder.specs.Laws.{AnswersAlike, IsWhole, SettledIsAsWhole, WholeIsOne}
use Rattle.table_folder.specs.Settled.{IsSettled}
use Rattle.table_folder.proofs.Staying.{final_distance, final_value, there_or_not}

-- ---- the whole folder has each table that is open

module _ (disk : DiskFacts) (folder : Folder) (tables whole : Tables) (are : AreOf disk folder tables) (all : IsWhole disk folder whole) where
  has_known : (kind : TableKind) (key : ℕ) (t : Contents) → key < 145 → table_at tables kind key ≡ Some t → table_at whole kind key ≡ Some t
  has_known kind key t known there = all.all kind key t known (are.each kind key t known there)

  -- no slot stands behind the last material's
  none_beyond : (i : ℕ) (t : Contents) → 290 ≤ i → get_or tables i None ≡ Some t → ⊥
  none_beyond i t beyond there = let none = sym there ∙ get_or_past tables i None (omega (arith, beyond, are.slots)) in absurd cc

  has_dtz : (key : ℕ) (t : Contents) → (key < 145) ⊎ (145 ≤ key) → table_at tables Dtz key ≡ Some t → table_at whole Dtz key ≡ Some t
  has_dtz key t (inl known) there = has_known Dtz key t known there
  has_dtz key t (inr beyond) there = absurd (none_beyond (145 + key) t (omega (arith, beyond)) there)

  pub has_all : HasAll tables whole
  has_all Dtz key t there = has_dtz key t (cases_lt key 145) there
  has_all Wdl key t there = elim (cases_lt key 145) [
    | inl known ↦ has_known Wdl key t known there
    | inr beyond ↦
        let same : 145 + (key - 145) ≡ key = omega (arith, beyond) in
        sym (ap (λ i. get_or whole i None) same) ∙ has_dtz (key - 145) t (cases_lt (key - 145) 145) (ap (λ i. get_or tables i None) same ∙ there)
  ]

-- ---- there is one

module _ (disk : DiskFacts) (folder : Folder) (a b : Tables) (all_a : IsWhole disk folder a) (all_b : IsWhole disk folder b) where
  same_at : (kind : TableKind) (key : ℕ) → key < 145 → table_at a kind key ≡ table_at b kind key
  same_at kind key known = elim (there_or_not (table_at a kind key)) [
    | inr (t, has) ↦ has ∙ sym (has_known disk folder a b all_a.opened all_b kind key t known has)
    | inl none ↦ elim (there_or_not (table_at b kind key)) [
      | inl lacks ↦ none ∙ sym lacks
      | inr (t, has) ↦ let there = sym none ∙ has_known disk folder b a all_b.opened all_a kind key t known has in absurd cc
    ]
  ]

  same_slot : (i : ℕ) → i < length a → get_or a i None ≡ get_or b i None
  same_slot i within = elim (cases_lt i 145) [
    | inl known ↦ same_at Wdl i known
    | inr beyond ↦
        let same : 145 + (i - 145) ≡ i = omega (arith, beyond) in
        sym (ap (λ n. get_or a n None) same) ∙ same_at Dtz (i - 145) (omega (arith, within, beyond, all_a.opened.slots)) ∙ ap (λ n. get_or b n None) same
  ]

pub whole_is_one : (disk : DiskFacts) → WholeIsOne disk
whole_is_one disk folder a b all_a all_b =
    ext_get_or {A = Option Contents} None a b (all_a.opened.slots ∙ sym all_b.opened.slots) (same_slot disk folder a b all_a all_b)

-- ---- the same answers

-- in scope a probe is as what it reads
probe_alike : {X : Type 0} (r : Result X ProbeFault) (outside : Bool) (a b : Result X ValueFault) → (outside ≡ false → b ≡ a) → IsProbe r outside a → IsProbe r outside b
probe_alike (Ok x) outside a b same h = (h.0, same h.0 ∙ h.1)
probe_alike (Err OutOfScope) outside a b same h = h
probe_alike (Err (NotCovered key)) outside a b same h = (h.0, same h.0 ∙ h.1)
probe_alike (Err (Damaged key)) outside a b same h = (h.0, same h.0 ∙ h.1)
probe_alike (Err OutOfMemory) outside a b same h = h

probed_alike : (tables whole : Tables) (p : Parts) (probed : ProbeResult) → (is_out_of_scope p ≡ false → wdl_of whole p ≡ wdl_of tables p) → (is_out_of_scope p ≡ false → dtz_of whole p ≡ dtz_of tables p) → IsProbed tables p probed → IsProbed whole p probed
probed_alike tables whole p probed value distance h = record {
  wdl = h.wdl;
  dtz = h.dtz;
  are = record {
    wdl_answered = h.are.wdl_answered;
    wdl_is = probe_alike h.wdl (is_out_of_scope p) (wdl_of tables p) (wdl_of whole p) value h.are.wdl_is;
    dtz_answered = h.are.dtz_answered;
    dtz_is = probe_alike h.dtz (is_out_of_scope p) (signed_in (dtz_of tables p)) (signed_in (dtz_of whole p)) (λ in_scope. ap signed_in (distance in_scope)) h.are.dtz_is;
  };
  told = h.told;
}

-- where no table of the folder is missing, more tables of it change nothing
pub as_more : MoreTablesAnswerTheSame → WhatIsMissingStaysMissing → (disk : DiskFacts) (folder : Folder) (tables more : Tables) (p : Parts) → AreOf disk folder more → HasAll tables more → IsSettled folder tables p → AnswersAlike tables more p
as_more same missing disk folder tables more p opened kept settled = record {
  value = value;
  distance = distance;
  verdict = answers.verdict (record {
    value = λ left in_scope. value_final in_scope;
    distance = λ left in_scope decisive. distance_final in_scope;
  });
  probed = λ probed h. probed_alike tables more p probed value distance h;
}
  where
    answers : AnswersTheSame tables more p
    answers = same tables more p kept

    value_final : is_out_of_scope p ≡ false → IsFinalValue tables more (not_covered (wdl_of tables p))
    value_final in_scope = final_value missing disk folder tables more p in_scope opened settled

    distance_final : is_out_of_scope p ≡ false → IsFinalDistance tables more (not_covered (dtz_of tables p))
    distance_final in_scope = final_distance missing disk folder tables more p in_scope kept opened settled

    value : is_out_of_scope p ≡ false → wdl_of more p ≡ wdl_of tables p
    value in_scope = answers.value (value_final in_scope)

    distance : is_out_of_scope p ≡ false → dtz_of more p ≡ dtz_of tables p
    distance in_scope = answers.distance (distance_final in_scope)

pub as_whole : MoreTablesAnswerTheSame → WhatIsMissingStaysMissing → (disk : DiskFacts) → SettledIsAsWhole disk
as_whole same missing disk folder tables whole p are all settled = as_more same missing disk folder tables whole p all.opened (has_all disk folder tables whole are all) settled
