-- The names of files that are tables.
use Rattle.std.proofs.Common.{◌≡◌, ◌≢◌, ◌<◌, ◌≤◌, ℕ, suc, List, [], ◌∷◌, map, length, replicate, Option, Some, None, Result, Ok, Err, refl, sym, ap, ◌∙◌, subst, arith, ⊎_elim}
use Rattle.std.specs.Prelude.{is_some, if◌then◌else◌, slice_index_or, slice_set}
use Rattle.std.proofs.lemmas.Bool.{cases_eq}
use Rattle.std.proofs.lemmas.List.{get_or-set_same, get_or-set_other, length-set, length-replicate}
use Rattle.place_index.specs.Material.{TablesAreNumbered}
use Rattle.table_file.specs.declared.fault.TableFault.{TableFault}
use Rattle.table_file.specs.declared.kind.TableKind.{TableKind}
use Rattle.table_file.specs.declared.kind.TableKind.TheVariants.{Wdl, Dtz}
use Rattle.table_file.specs.Layouts.{IsLayout, ReadsWhatIsLaidOut}
use Rattle.table_file.specs.Names.{file_name}
use Rattle.table_file.specs.Tables.{Contents}
use Rattle.table_file.proofs.NameLemmas.{title_is}
use Rattle.judge_core.specs.Tables.{Tables, slot, table_at}
use Rattle.move_msg.specs.Files.{File, entry_for, entries_of}
use Rattle.move_msg.specs.TableNames.{IsFileName}
use Rattle.relay_world.specs.declared.fault.WorldFault.TheVariants.{DuplicateTable}
use Rattle.relay_world.proofs.FileNames.{is_file_name}
use Rattle.relay_world.specs.Gathering.{and_then, with_table, tables_from, tables_of, found_in, IsNew, AreTables}

-- ---- tables that are gathered are tables, each of another name

-- what a file is named, where it is a table
record IsNamed (f : File) (t : Contents) : Type 0 where
  pub known : t.material < 145
  pub name : f.name ≡ file_name t.kind t.material

named : ReadsWhatIsLaidOut → (f : File) (t : Contents) → found_in f ≡ Ok t → IsNamed f t
named laid f t e = let l : IsLayout f.name f.bytes t = (laid f.name f.bytes t).0 e in record { known = l.head.known; name = l.head.named }

-- a name of a kind and a material
one_title : TablesAreNumbered → (name : List ℕ) (k j : TableKind) (m n : ℕ) → m < 145 → n < 145 → name ≡ file_name k m → name ≡ file_name j n → (k ≡ j) × (m ≡ n)
one_title law name k j m n lm ln e f = parts (sym (title_is law k m name lm e) ∙ title_is law j n name ln f)
  where
    ok_same : (x y : TableKind × ℕ) → ◌≡◌ {A = Result (TableKind × ℕ) TableFault} (Ok x) (Ok y) → x ≡ y
    ok_same x y e = cc

    parts : ◌≡◌ {A = Result (TableKind × ℕ) TableFault} (Ok (k, m)) (Ok (j, n)) → (k ≡ j) × (m ≡ n)
    parts e = let p : ◌≡◌ {A = TableKind × ℕ} (k, m) (j, n) = ok_same (k, m) (j, n) e in (ap (λ (x : TableKind × ℕ). x.0) p, ap (λ (x : TableKind × ℕ). x.1) p)

-- the slot of each file is free
abbrev AreFree : Tables → List File → Type 0
AreFree tables [] = Unit {0}
AreFree tables (f ∷ others) = ((kind : TableKind) (m : ℕ) → m < 145 → f.name ≡ file_name kind m → table_at tables kind m ≡ None) × AreFree tables others

-- one step of the gathering
record IsStep (tables : Tables) (place : ℕ) (f : File) (others : List File) (t : Tables) : Type 0 where
  pub found : Contents
  pub is : found_in f ≡ Ok found
  pub free : table_at tables found.kind found.material ≡ None
  pub rest : tables_from (slice_set tables (slot found.kind found.material) (Some found)) (suc place) (map found_in others) ≡ Ok t

step_of : (tables : Tables) (place : ℕ) (f : File) (others : List File) (t : Tables) → tables_from tables place (map found_in (f ∷ others)) ≡ Ok t → IsStep tables place f others t
unfolding tables_from
step_of tables place f others t e = by_found (found_in f) refl e
  where
    by_free : (c : Contents) → found_in f ≡ Ok c → (o : Option Contents) → table_at tables c.kind c.material ≡ o → and_then (if is_some o then Err (DuplicateTable place) else Ok (slice_set tables (slot c.kind c.material) (Some c))) (λ more. tables_from more (suc place) (map found_in others)) ≡ Ok t → IsStep tables place f others t
    by_free c i None n e = record { found = c; is = i; free = n; rest = e }
    by_free c i (Some x) n e = absurd cc

    by_found : (r : Result Contents TableFault) → found_in f ≡ r → and_then (with_table tables place r) (λ more. tables_from more (suc place) (map found_in others)) ≡ Ok t → IsStep tables place f others t
    by_found (Err fault) i e = absurd cc
    by_found (Ok c) i e = by_free c i (table_at tables c.kind c.material) refl e

slot_below : (kind : TableKind) (m : ℕ) → m < 145 → slot kind m < 290
slot_below Wdl m l = omega arith
slot_below Dtz m l = omega arith

-- the others' slots are not the one that is filled
other_names : (f : File) (c : Contents) (tables : Tables) (others : List File) → IsNamed f c → 290 ≤ length tables → AreFree (slice_set tables (slot c.kind c.material) (Some c)) others → IsNew (entry_for f) (entries_of others)
other_names f c tables [] n l h = tt
other_names f c tables (g ∷ others) n l h = (
  λ same.
      let free : table_at (slice_set tables (slot c.kind c.material) (Some c)) c.kind c.material ≡ None = h.0 c.kind c.material n.known (sym same ∙ n.name) in
      let below : slot c.kind c.material < 290 = slot_below c.kind c.material n.known in
      let there : table_at (slice_set tables (slot c.kind c.material) (Some c)) c.kind c.material ≡ Some c = get_or-set_same tables (slot c.kind c.material) (Some c) None (omega arith) in
      absurd (let bad : ◌≡◌ {A = Option Contents} None (Some c) = sym free ∙ there in cc),
  other_names f c tables others n l h.1,
)

free_before : (c : Contents) (tables : Tables) → c.material < 145 → 290 ≤ length tables → (kind : TableKind) (m : ℕ) → table_at (slice_set tables (slot c.kind c.material) (Some c)) kind m ≡ None → table_at tables kind m ≡ None
free_before c tables known l kind m e =
    ⊎_elim
    (λ (same : slot kind m ≡ slot c.kind c.material).
    let below : slot c.kind c.material < 290 = slot_below c.kind c.material known in
    let there : slice_index_or (slice_set tables (slot c.kind c.material) (Some c)) (slot c.kind c.material) None ≡ Some c = get_or-set_same tables (slot c.kind c.material) (Some c) None (omega arith) in
    absurd (let bad : ◌≡◌ {A = Option Contents} None (Some c) = sym e ∙ ap (λ s. slice_index_or (slice_set tables (slot c.kind c.material) (Some c)) s None) same ∙ there in cc))
    (λ (other : slot kind m ≢ slot c.kind c.material). sym (get_or-set_other tables (slot c.kind c.material) (slot kind m) (Some c) None other) ∙ e)
    (cases_eq (slot kind m) (slot c.kind c.material))

all_free_before : (c : Contents) (tables : Tables) → c.material < 145 → 290 ≤ length tables → (files : List File) → AreFree (slice_set tables (slot c.kind c.material) (Some c)) files → AreFree tables files
all_free_before c tables known l [] h = tt
all_free_before c tables known l (f ∷ others) h = ((λ kind m lm e. free_before c tables known l kind m (h.0 kind m lm e)), all_free_before c tables known l others h.1)

both : TablesAreNumbered → ReadsWhatIsLaidOut → (files : List File) (tables : Tables) (place : ℕ) (t : Tables) → 290 ≤ length tables → tables_from tables place (map found_in files) ≡ Ok t → AreTables files × AreFree tables files
both law laid [] tables place t l e = (tt, tt)
both law laid (f ∷ others) tables place t l e =
    let s : IsStep tables place f others t = step_of tables place f others t e in
    let c : Contents = s.found in
    let n : IsNamed f c = named laid f c s.is in
    let more : Tables = slice_set tables (slot c.kind c.material) (Some c) in
    let long : 290 ≤ length more = subst (λ k. 290 ≤ k) (sym (length-set tables (slot c.kind c.material) (Some c))) l in
    let later : AreTables others × AreFree more others = both law laid others more (suc place) t long s.rest in
    let good : IsFileName f.name = subst IsFileName (sym n.name) (is_file_name law c.kind c.material n.known) in (
      (good, other_names f c tables others n l later.1, later.0),
      ((λ kind m lm e. own kind m lm e c n s.free), all_free_before c tables n.known l others later.1),
    )
  where
    own : (kind : TableKind) (m : ℕ) → m < 145 → f.name ≡ file_name kind m → (c : Contents) → IsNamed f c → table_at tables c.kind c.material ≡ None → table_at tables kind m ≡ None
    own kind m lm e c n free =
        let one = one_title law f.name c.kind kind c.material m n.known lm n.name e in
        subst (λ k. table_at tables k m ≡ None) one.0 (subst (λ j. table_at tables c.kind j ≡ None) one.1 free)

pub are_tables : TablesAreNumbered → ReadsWhatIsLaidOut → (files : List File) (tables : Tables) (place : ℕ) (t : Tables) → 290 ≤ length tables → tables_from tables place (map found_in files) ≡ Ok t → AreTables files
are_tables law laid files tables place t l e = (both law laid files tables place t l e).0

abbrev none_there : Option Contents
none_there = None

pub are_all_tables : TablesAreNumbered → ReadsWhatIsLaidOut → (files : List File) (t : Tables) → tables_of files ≡ Ok t → AreTables files
are_all_tables law laid files t e = are_tables law laid files (replicate 290 none_there) 0 t (subst (λ n. 290 ≤ n) (sym (length-replicate 290 none_there)) (omega arith)) e
