-- Files that are refused are needed.
use Rattle.std.proofs.Common.{◌≡◌, ◌≢◌, ◌<◌, ◌+◌, ℕ, length, List, get_or, set, None, Err, refl, sym, ap, ◌∙◌, inl, inr, arith}
use Rattle.std.proofs.lemmas.Bool.{cases_eq}
use Rattle.std.proofs.lemmas.List.{get_or-set_same, get_or-set_other}
use Rattle.board_core.specs.declared.parts.Parts.{Parts}
use Rattle.system_io.specs.Disks.{DiskFacts, HoldsOne}
use Rattle.table_file.specs.declared.kind.TableKind.{TableKind}
use Rattle.table_file.specs.declared.kind.TableKind.TheVariants.{Wdl, Dtz}
use Rattle.judge_core.specs.declared.fault.ValueFault.TheVariants.{NotCovered}
use Rattle.judge_core.specs.Distances.{dtz_of}
use Rattle.judge_core.specs.MoreTables.{AddsNone, HasAll, MoreTablesAnswerTheSame, WhatIsMissingStaysMissing}
use Rattle.judge_core.specs.Tables.{Tables, slot, table_at}
use Rattle.table_folder.specs.declared.fault.FileRefusal.{FileRefusal}
use Rattle.table_folder.specs.Folders.{AreOf, Folder, Found, NotListed, NotRead, Read, Says, digest_in, found_in}
use Rattle.table_folder.specs.Laws.{IsWhole, RefusedIsNeeded}
use Rattle.table_folder.specs.Settled.{ComesInTurn, IsRefusedAt, Misses}
use Rattle.table_folder.proofs.Staying.{there_or_not}
use Rattle.table_folder.proofs.ValueFirst.{distance_same}
use Rattle.table_folder.proofs.Whole.{has_all}

-- ---- a file says one thing

pub says_one : (disk : DiskFacts) (folder : Folder) (name : List ℕ) (a b : Found) → HoldsOne disk → Says disk folder name a → Says disk folder name b → a ≡ b
says_one disk folder name a b one (NotListed none e) (NotListed none2 e2) = e ∙ sym e2
says_one disk folder name a b one (NotListed none e) (NotRead listed fails e2) = absurd (none listed)
says_one disk folder name a b one (NotListed none e) (Read listed bytes held e2) = absurd (none listed)
says_one disk folder name a b one (NotRead listed fails e) (NotListed none e2) = absurd (none listed)
says_one disk folder name a b one (NotRead listed fails e) (NotRead listed2 fails2 e2) = e ∙ sym e2
says_one disk folder name a b one (NotRead listed fails e) (Read listed2 bytes held e2) = absurd (one.held _ bytes held fails)
says_one disk folder name a b one (Read listed bytes held e) (NotListed none e2) = absurd (none listed)
says_one disk folder name a b one (Read listed bytes held e) (NotRead listed2 fails e2) = absurd (one.held _ bytes held fails)
says_one disk folder name a b one (Read listed bytes held e) (Read listed2 bytes2 held2 e2) = e ∙ ap (found_in (digest_in folder.manifest name) name) (one.bytes _ bytes bytes2 held held2) ∙ sym e2

-- the whole folder lacks the table of a file that is refused
lacks_refused : (disk : DiskFacts) (folder : Folder) (whole : Tables) (p : Parts) (refusal : FileRefusal) → HoldsOne disk → IsWhole disk folder whole → (refused : IsRefusedAt disk folder p refusal) → table_at whole refused.kind refused.key ≡ None
lacks_refused disk folder whole p refusal one all refused = elim (there_or_not (table_at whole refused.kind refused.key)) [
  | inl none ↦ none
  | inr (t, has) ↦
      let other = says_one disk folder _ _ _ one (all.opened.each refused.kind refused.key t refused.known has).says refused.says in
      absurd cc
]

-- ---- distances

-- with no more tables of either kind of the material the distance is the same
same_distance : MoreTablesAnswerTheSame → (tables more : Tables) (p : Parts) (key : ℕ) → HasAll tables more → dtz_of tables p ≡ Err (NotCovered key) → AddsNone tables more Wdl key → AddsNone tables more Dtz key → dtz_of more p ≡ Err (NotCovered key)
same_distance same tables more p key all e no_wdl no_dtz = (same tables more p all).distance (rw e each) ∙ e
  where
    each : (kind : TableKind) → AddsNone tables more kind key
    each Wdl = no_wdl
    each Dtz = no_dtz

module _ (same : MoreTablesAnswerTheSame) (tables whole : Tables) (p : Parts) (key : ℕ) (known : key < 145) (slots : length whole ≡ 290) (all : HasAll tables whole) (e : dtz_of tables p ≡ Err (NotCovered key)) where
  -- the whole folder, but with the DTZ table of this material as the smaller set has it
  abbrev without : Tables
  without = set whole (145 + key) (table_at tables Dtz key)

  fits : 145 + key < length whole
  fits = omega (arith, known, slots)

  at_dtz : table_at without Dtz key ≡ table_at tables Dtz key
  at_dtz = get_or-set_same whole (145 + key) (table_at tables Dtz key) None fits

  elsewhere : (i : ℕ) → i ≢ 145 + key → get_or without i None ≡ get_or whole i None
  elsewhere i other = get_or-set_other whole (145 + key) i (table_at tables Dtz key) None other

  wdl_kept : (k : ℕ) → k < 145 → table_at without Wdl k ≡ table_at whole Wdl k
  wdl_kept k below = elsewhere k (λ is. omega (arith, below, is))

  dtz_kept : (k : ℕ) → k < 145 → k ≢ key → table_at without Dtz k ≡ table_at whole Dtz k
  dtz_kept k below other = elsewhere (145 + k) (λ is. other (omega (arith, is)))

  has_all_without : HasAll tables without
  has_all_without kind k t there = elim (cases_eq (slot kind k) (145 + key)) [
    | inl is ↦ ap (λ i. get_or without i None) is ∙ at_dtz ∙ sym (ap (λ i. get_or tables i None) is) ∙ there
    | inr other ↦ elsewhere (slot kind k) other ∙ all kind k t there
  ]

  stays_missed : table_at tables Wdl key ≡ None → table_at whole Wdl key ≡ None → dtz_of whole p ≡ Err (NotCovered key)
  stays_missed lacks none =
      let own = wdl_kept key known ∙ none in
      sym (distance_same without whole wdl_kept key own dtz_kept p) ∙ same_distance same tables without p key has_all_without e (own ∙ sym lacks) at_dtz

-- ---- the law

module _ (same : MoreTablesAnswerTheSame) (missing : WhatIsMissingStaysMissing) (disk : DiskFacts) (folder : Folder) (whole : Tables) (p : Parts) (all : IsWhole disk folder whole) (tables : Tables) (are : AreOf disk folder tables) (key : ℕ) (known : key < 145) where
  more : HasAll tables whole
  more = has_all disk folder tables whole are all

  wdl_added : ComesInTurn folder tables Dtz key → AddsNone tables whole Wdl key
  wdl_added in_turn = elim (there_or_not (table_at tables Wdl key)) [
    | inr (t, has) ↦ more Wdl key t has ∙ sym has
    | inl lacks ↦ elim (there_or_not (table_at whole Wdl key)) [
      | inl none ↦ none ∙ sym lacks
      | inr (t, has) ↦ absurd (in_turn refl lacks (all.opened.each Wdl key t known has).has)
    ]
  ]

  by_distance : (kind : TableKind) → ComesInTurn folder tables kind key → table_at tables kind key ≡ None → table_at whole kind key ≡ None → dtz_of tables p ≡ Err (NotCovered key) → dtz_of whole p ≡ Err (NotCovered key)
  by_distance Wdl in_turn lacks none e = stays_missed same tables whole p key known all.opened.slots more e lacks none
  by_distance Dtz in_turn lacks none e = same_distance same tables whole p key more e (wdl_added in_turn) (none ∙ sym lacks)

  pub misses_too : (kind : TableKind) → ComesInTurn folder tables kind key → table_at whole kind key ≡ None → Misses tables p kind key → Misses whole p kind key
  misses_too kind in_turn none (in_scope, lacks, inl (wdl, e)) =
      let stays = ((missing tables p key).0 e).stays whole more (ap (λ k. table_at whole k key) (sym wdl) ∙ none) in
      (in_scope, none, inl (wdl, stays))
  misses_too kind in_turn none (in_scope, lacks, inr e) = (in_scope, none, inr (by_distance kind in_turn lacks none e))

pub refused_is_needed : MoreTablesAnswerTheSame → WhatIsMissingStaysMissing → (disk : DiskFacts) → RefusedIsNeeded disk
refused_is_needed same missing disk one folder whole p refusal all refused =
    let none = lacks_refused disk folder whole p refusal one all refused in record {
      kind = refused.kind;
      key = refused.key;
      known = refused.known;
      name = refused.name;
      has = refused.has;
      misses = misses_too same missing disk folder whole p all refused.tables refused.opened refused.key refused.known refused.kind refused.in_turn none refused.misses;
    }
