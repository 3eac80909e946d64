-- Tables that are put into empty slots.
use Rattle.std.proofs.Common.{◌≡◌, ◌≢◌, ◌<◌, ℕ, suc, Bool, true, false, List, length, replicate, get_or, count_by, is_some, set, Option, Some, None, Result, Ok, Err, refl, sym, ap, cond, ◌∙◌, inl, inr, arith, if◌then◌else◌}
use Rattle.std.proofs.lemmas.List.{get_or-replicate, length-replicate, length-set, get_or-set_same, get_or-set_other}
use Rattle.std.proofs.lemmas.Bool.{cases_eq}
use Rattle.std.proofs.lemmas.List.Sums.{sum_by-set}
use Rattle.std.specs.Str.{bytes_eq}
use Rattle.sha2.specs.Sha256.{sha256}
use Rattle.system_io.specs.Disks.{DiskFacts}
use Rattle.table_file.specs.declared.fault.TableFault.{TableFault}
use Rattle.table_file.specs.declared.kind.TableKind.{TableKind}
use Rattle.table_file.specs.declared.kind.TableKind.TheVariants.{Wdl, Dtz}
use Rattle.table_file.specs.Layouts.{ReadsWhatIsLaidOut}
use Rattle.table_file.specs.Names.{NamesDiffer, file_name}
use Rattle.table_file.specs.Tables.{Contents, contents_at}
use Rattle.judge_core.specs.MoreTables.{AddingKeepsTheRest}
use Rattle.judge_core.specs.declared.probe_result.ProbeResult.{ProbeResult}
use Rattle.judge_core.specs.Tables.{Holding, Tables, slot, table_at}
use Rattle.std.specs.Prelude.{IsSome, OnOk}
use Rattle.judge_core.specs.declared.fault.SetFault.{SetFault}
use Rattle.judge_core.specs.declared.fault.SetFault.TheVariants.{Duplicate, OutOfMemory}
use Rattle.table_folder.specs.declared.fault.FileFault.TheVariants.{Changed}
use Rattle.table_folder.specs.Folders.{AreOf, Folder, HasTable, IsTableOf, NotListed, NotRead, Read, Says, digest_in, found_in, found_table}
use Rattle.table_folder.specs.Inside.{AddsTable, IsOneMoreOf, IsRefusalOf, MissesBy}
use Rattle.table_folder.specs.Settled.{ComesInTurn, IsAlone, IsMissedFor, IsRefusedAt, Misses}
use Rattle.table_folder.specs.declared.fault.FileRefusal.{FileRefusal}
use Rattle.table_folder.proofs.Only.{adds_none}
use Rattle.table_folder.proofs.Probed.{misses_at}
use Rattle.board_core.specs.declared.parts.Parts.{Parts}
use Rattle.judge_core.specs.ProbeResult.{IsProbed}

-- ---- what a file says that is a table

table_from : (t : Contents) (r : Result Contents TableFault) → Ok t ≡ found_table r → r ≡ Ok t
table_from t (Ok x) e = let same : x ≡ t = cc in ap Ok same
table_from t (Err fault) e = absurd cc

table_from_held : (t : Contents) (r : Result Contents TableFault) (agrees : Bool) → Ok t ≡ (if agrees then found_table r else Err Changed) → r ≡ Ok t
table_from_held t r true e = table_from t r e
table_from_held t r false e = absurd cc

table_in : (t : Contents) (held : Option (List ℕ)) (name bytes : List ℕ) → Ok t ≡ found_in held name bytes → contents_at name bytes ≡ Ok t
table_in t None name bytes e = table_from t (contents_at name bytes) e
table_in t (Some digest) name bytes e = table_from_held t (contents_at name bytes) (bytes_eq (sha256 bytes) digest) e

-- a table has the kind and the material of its file's name
pub titled : ReadsWhatIsLaidOut → NamesDiffer → (disk : DiskFacts) (folder : Folder) (kind : TableKind) (key : ℕ) (t : Contents) → key < 145 → Says disk folder (file_name kind key) (Ok t) → (t.kind ≡ kind) × (t.material ≡ key)
titled reads differ disk folder kind key t known (NotListed none e) = absurd cc
titled reads differ disk folder kind key t known (NotRead listed fails e) = absurd cc
titled reads differ disk folder kind key t known (Read listed bytes held e) =
    let layout = (reads (file_name kind key) bytes t).0 (table_in t (digest_in folder.manifest (file_name kind key)) (file_name kind key) bytes e) in
    let same = differ kind t.kind key t.material known layout.head.known layout.head.named in
    (sym same.0, sym same.1)

-- ---- slots

pub slots_differ : (kind other : TableKind) (j k : ℕ) → j < 145 → k < 145 → slot kind j ≡ slot other k → (kind ≡ other) × (j ≡ k)
slots_differ Wdl Wdl j k jj kk e = (refl, e)
slots_differ Wdl Dtz j k jj kk e = absurd (omega (arith, e, jj))
slots_differ Dtz Wdl j k jj kk e = absurd (omega (arith, e, kk))
slots_differ Dtz Dtz j k jj kk e = (refl, omega (arith, e))

pub slot_below : (kind : TableKind) (key : ℕ) → key < 145 → slot kind key < 290
slot_below Wdl key lt = omega (arith, lt)
slot_below Dtz key lt = omega (arith, lt)

pub count_more : (xs : Tables) (i : ℕ) (t : Contents) → i < length xs → get_or xs i None ≡ None → count_by is_some (set xs i (Some t)) ≡ suc (count_by is_some xs)
count_more xs i t lt none = omega (arith, sum_by-set (λ (x : Option Contents). cond (is_some x) 1 0) xs i (Some t) None lt, ap {B = ℕ} (λ (x : Option Contents). cond (is_some x) 1 0) none)

-- no table is in an empty set
pub none_of : (disk : DiskFacts) (folder : Folder) → AreOf disk folder (replicate 290 None)
none_of disk folder = record {
  slots = length-replicate {A = Option Contents} 290 None;
  each = λ kind key t known there. let none = sym there ∙ get_or-replicate 290 (slot kind key) None None (slot_below kind key known) in absurd cc;
}

-- one table more of the folder
pub one_more_of : AddingKeepsTheRest → (disk : DiskFacts) (folder : Folder) (old new : Tables) (p : Parts) (kind : TableKind) (key : ℕ) → key < 145 → Misses old p kind key → ComesInTurn folder old kind key → HasTable folder kind key → AreOf disk folder old → AddsTable disk folder old new kind key → IsOneMoreOf disk folder old new p
one_more_of keeps disk folder old new p kind key known misses in_turn has are adds =
    let lacks = misses.1 in
    let fits : slot kind key < length old = omega (arith, slot_below kind key known, are.slots) in
    rw adds.put (record {
      opened = record {
        slots = length-set old (slot kind key) (Some adds.table) ∙ are.slots;
        each = λ other k t lt there.
            elim (cases_eq (slot other k) (slot kind key)) [
              | inl same ↦ is_new other k t lt same fits there
              | inr ne ↦ are.each other k t lt (sym (get_or-set_other old (slot kind key) (slot other k) (Some adds.table) None ne) ∙ there)
            ];
      };
      kept = (keeps old kind key adds.table lacks fits).kept;
      slots = length-set old (slot kind key) (Some adds.table);
      more = omega (arith, count_more old (slot kind key) adds.table fits lacks);
      only = λ other k lt none some.
          elim (cases_eq (slot other k) (slot kind key)) [
            | inl same ↦ is_missed other k lt same
            | inr ne ↦ adds_none disk folder (IsAlone p) old other k lt none (rw (get_or-set_other old (slot kind key) (slot other k) (Some adds.table) None ne) at some)
          ];
    })
  where
    is_missed : (other : TableKind) (k : ℕ) → k < 145 → slot other k ≡ slot kind key → IsMissedFor disk folder (IsAlone p) old other k
    is_missed other k lt same =
        let both = slots_differ other kind k key lt known same in
        rw (both.0, both.1) (record { position = p; needed = λ more are2 kept. refl; tables = old; kept = λ kind2 key2 t there. there; opened = are; misses = misses; in_turn = in_turn })

    is_new : (other : TableKind) (k : ℕ) (t : Contents) → k < 145 → slot other k ≡ slot kind key → slot kind key < length old → table_at (set old (slot kind key) (Some adds.table)) other k ≡ Some t → IsTableOf disk folder other k t
    is_new other k t lt same fits there =
        let both = slots_differ other kind k key lt known same in
        let here = sym there ∙ ap (λ i. get_or (set old (slot kind key) (Some adds.table)) i None) same ∙ get_or-set_same old (slot kind key) (Some adds.table) None fits in
        let table : t ≡ adds.table = cc in
        rw (both.0, both.1, table) (record { has = has; says = adds.says })

-- it is put into the slot of its file's name
pub at_slot : {kind : TableKind} {key : ℕ} {new : Holding} (t : Contents) (old : Holding) → t.kind ≡ kind → t.material ≡ key → new ≡ record old { tables = set old.tables (slot t.kind t.material) (Some t) } → new.tables ≡ set old.tables (slot kind key) (Some t)
at_slot {kind = kind} t old a b e = ap (λ s. s.tables) e ∙ ap (λ k. set old.tables (slot k t.material) (Some t)) a ∙ ap (λ k. set old.tables (slot kind k) (Some t)) b

-- a set that lacks a table takes it
pub taken : {P : Type 0} (r : Result (Unit {0}) SetFault) (tables : Tables) (kind other : TableKind) (key k : ℕ) → other ≡ kind → k ≡ key → table_at tables kind key ≡ None → ((r ≡ Err Duplicate) → IsSome (table_at tables other k)) → r ≢ Err OutOfMemory → OnOk r P → P
taken (Ok u) tables kind other key k a b lacks twice memory added = added
taken (Err Duplicate) tables kind other key k a b lacks twice memory added =
    let there = rw (a, b, lacks) at twice refl in
    absurd cc
taken (Err OutOfMemory) tables kind other key k a b lacks twice memory added = absurd (memory refl)

-- a table more after a look at a set that stayed
pub one_more_after : AddingKeepsTheRest → (disk : DiskFacts) (folder : Folder) (old mid : Holding) (new : Tables) (p : Parts) (probed : ProbeResult) (kind : TableKind) (key : ℕ) → key < 145 → mid ≡ old → IsProbed old.tables p probed → MissesBy mid.tables probed kind key → ComesInTurn folder mid.tables kind key → HasTable folder kind key → AreOf disk folder old.tables → AddsTable disk folder mid.tables new kind key → IsOneMoreOf disk folder old.tables new p
one_more_after keeps disk folder old mid new p probed kind key known same told missing in_turn has are adds =
    let before = ap (λ s. s.tables) same in
    one_more_of keeps disk folder old.tables new p kind key known (misses_at old.tables p probed kind key told (rw before at missing)) (rw before at in_turn) has are (rw before at adds)

-- a refusal after a look at a set that stayed
pub refused_after : (disk : DiskFacts) (folder : Folder) (old mid new : Holding) (p : Parts) (probed : ProbeResult) (kind : TableKind) {key : ℕ} (refusal : FileRefusal) → key < 145 → mid ≡ old → new ≡ mid → IsProbed old.tables p probed → MissesBy mid.tables probed kind key → HasTable folder kind key → ComesInTurn folder mid.tables kind key → AreOf disk folder old.tables → IsRefusalOf disk folder kind key refusal → (new.tables ≡ old.tables) × IsRefusedAt disk folder p refusal
refused_after disk folder old mid new p probed kind {key = key} refusal known same kept told missing has in_turn are refused = let before = ap (λ s. s.tables) same in (
  ap (λ s. s.tables) (kept ∙ same),
  record {
    tables = old.tables;
    opened = are;
    kind = kind;
    key = key;
    known = known;
    misses = misses_at old.tables p probed kind key told (rw before at missing);
    has = has;
    in_turn = rw before at in_turn;
    name = refused.name;
    says = refused.says;
  },
)
