-- Positions that stay settled while more tables are opened.
use Rattle.std.proofs.Common.{◌≡◌, ◌⊎◌, ◌<◌, ℕ, false, Option, Some, None, Result, Ok, Err, refl, sym, ◌∙◌, inl, inr}
use Rattle.std.specs.Prelude.{IfSome}
use Rattle.board_core.specs.declared.parts.Parts.{Parts}
use Rattle.system_io.specs.Disks.{DiskFacts}
use Rattle.table_file.specs.declared.kind.TableKind.{TableKind}
use Rattle.table_file.specs.declared.kind.TableKind.TheVariants.{Wdl}
use Rattle.judge_core.specs.declared.fault.ValueFault.{ValueFault}
use Rattle.judge_core.specs.declared.fault.ValueFault.TheVariants.{NotCovered, Damaged}
use Rattle.judge_core.specs.Asked.{not_covered}
use Rattle.judge_core.specs.Distances.{dtz_of}
use Rattle.judge_core.specs.MoreTables.{AddsNone, HasAll, IsFinalDistance, IsFinalValue, MoreTablesAnswerTheSame, WhatIsMissingStaysMissing}
use Rattle.judge_core.specs.Probing.{wdl_of}
use Rattle.judge_core.specs.Ruling.{is_out_of_scope}
use Rattle.judge_core.specs.Tables.{Tables, table_at}
use Rattle.table_folder.specs.Folders.{AreOf, Folder, HasTable}
use Rattle.table_folder.specs.Settled.{IsSettled}

pub there_or_not : {X : Type 0} (x : Option X) → (x ≡ None) ⊎ ((t : X) × (x ≡ Some t))
there_or_not None = inl refl
there_or_not (Some t) = inr (t, refl)

-- a condition of the material that is missed, by cases of the answer
if_missed : {X : Type 0} {P : ℕ → Type 0} (r : Result X ValueFault) → ((key : ℕ) → r ≡ Err (NotCovered key) → P key) → IfSome (not_covered r) P
if_missed (Ok x) has = tt
if_missed (Err (NotCovered key)) has = has key refl
if_missed (Err (Damaged key)) has = tt

-- a set lacks what one with more tables lacks
pub lacks_too : (old new : Tables) (kind : TableKind) (key : ℕ) → HasAll old new → table_at new kind key ≡ None → table_at old kind key ≡ None
lacks_too old new kind key more none =
    elim (there_or_not (table_at old kind key)) [
      | inl lacks ↦ lacks
      | inr (t, has) ↦ let there = sym none ∙ more kind key t has in absurd cc
    ]

-- of what the folder lacks nothing is opened
none_more : (disk : DiskFacts) (folder : Folder) (old new : Tables) (kind : TableKind) (key : ℕ) → key < 145 → AreOf disk folder new → table_at old kind key ≡ None → (HasTable folder kind key → ⊥) → AddsNone old new kind key
none_more disk folder old new kind key known are lacks none =
    elim (there_or_not (table_at new kind key)) [
      | inl without ↦ without ∙ sym lacks
      | inr (t, has) ↦ absurd (none (are.each kind key t known has).has)
    ]

-- ---- what a settled position misses is final

pub final_value : WhatIsMissingStaysMissing → (disk : DiskFacts) (folder : Folder) (old new : Tables) (p : Parts) → is_out_of_scope p ≡ false → AreOf disk folder new → IsSettled folder old p → IsFinalValue old new (not_covered (wdl_of old p))
final_value missing disk folder old new p in_scope are settled =
    if_missed (wdl_of old p) (λ key e.
    let lacks = (missing old p key).0 e in
    none_more disk folder old new Wdl key lacks.known are lacks.lacks (settled Wdl key (in_scope, lacks.lacks, inl (refl, e))))

pub final_distance : WhatIsMissingStaysMissing → (disk : DiskFacts) (folder : Folder) (old new : Tables) (p : Parts) → is_out_of_scope p ≡ false → HasAll old new → AreOf disk folder new → IsSettled folder old p → IsFinalDistance old new (not_covered (dtz_of old p))
final_distance missing disk folder old new p in_scope more are settled =
    if_missed (dtz_of old p) (λ key e kind.
    let known = ((missing old p key).1 e).1.known in
    elim (there_or_not (table_at old kind key)) [
      | inl lacks ↦ none_more disk folder old new kind key known are lacks (settled kind key (in_scope, lacks, inr e))
      | inr (t, has) ↦ more kind key t has ∙ sym has
    ])

-- ---- a settled position stays settled

pub stays_settled : MoreTablesAnswerTheSame → WhatIsMissingStaysMissing → (disk : DiskFacts) (folder : Folder) (old new : Tables) (p : Parts) → HasAll old new → AreOf disk folder new → IsSettled folder old p → IsSettled folder new p
stays_settled same missing disk folder old new p more are settled kind key (in_scope, lacks, inl (wdl, e)) has =
    let before = sym ((same old new p more).value (final_value missing disk folder old new p in_scope are settled)) ∙ e in
    settled kind key (in_scope, lacks_too old new kind key more lacks, inl (wdl, before)) has
stays_settled same missing disk folder old new p more are settled kind key (in_scope, lacks, inr e) has =
    let before = sym ((same old new p more).distance (final_distance missing disk folder old new p in_scope more are settled)) ∙ e in
    settled kind key (in_scope, lacks_too old new kind key more lacks, inr before) has
