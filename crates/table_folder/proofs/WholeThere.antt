-- A folder each of whose files says something has a set of all its tables.
use Rattle.std.proofs.Common.{◌≡◌, ◌⊎◌, ◌<◌, ◌≤◌, ◌+◌, ◌-◌, ℕ, Bool, true, false, length, List, get_or, map, Option, Some, None, is_some, Result, Ok, Err, refl, sym, ap, subst, ◌∙◌, inl, inr, arith}
use Rattle.std.proofs.lemmas.Bool.{cases_lt}
use Rattle.std.proofs.lemmas.List.{get_or-map, length-map}
use Rattle.std.proofs.lemmas.List.FromFn.{get_or-range_with_len, length-range_with_len}
use Rattle.std.specs.List.{Contains, range_with_len}
use Rattle.move_msg.specs.ToldManifests.{ToldManifest}
use Rattle.system_io.specs.Disks.{DiskFacts, HoldsOne}
use Rattle.table_file.specs.declared.kind.TableKind.{TableKind}
use Rattle.table_file.specs.declared.kind.TableKind.TheVariants.{Wdl, Dtz}
use Rattle.table_file.specs.Names.{file_name}
use Rattle.table_file.specs.Tables.{Contents}
use Rattle.judge_core.specs.Tables.{Tables, table_at}
use Rattle.table_folder.specs.Folders.{Folder, Found, HasTable, IsNamed, IsTableOf, NotListed, NotRead, Read, Says, digest_in}
use Rattle.table_folder.specs.Laws.{IsWhole, WholeIsThere}
use Rattle.table_folder.proofs.Needed.{says_one}

-- what a file says as a table is listed
listed_of : (disk : DiskFacts) (folder : Folder) (name : List ℕ) (t : Contents) → Says disk folder name (Ok t) → Contains folder.names name
listed_of disk folder name t (NotListed none e) = absurd cc
listed_of disk folder name t (NotRead listed fails e) = listed
listed_of disk folder name t (Read listed bytes held e) = listed

-- of what is listed the manifest decides
is_named : Option ToldManifest → List ℕ → Bool
is_named None name = true
is_named (Some manifest) name = is_some (digest_in (Some manifest) name)

named_from : (manifest : Option ToldManifest) (names : List (List ℕ)) (name : List ℕ) → is_named manifest name ≡ true → Contains names name → IsNamed manifest names name
unfolding is_named
named_from None names name e listed = listed
named_from (Some manifest) names name e listed = e

named_to : (manifest : Option ToldManifest) (names : List (List ℕ)) (name : List ℕ) → IsNamed manifest names name → is_named manifest name ≡ true
unfolding is_named
named_to None names name h = refl
named_to (Some manifest) names name h = h

-- the table of a file, where it counts
kept : Bool → Found → Option Contents
kept true (Ok t) = Some t
kept false (Ok t) = None
kept b (Err fault) = None

kept_back : (b : Bool) (found : Found) (t : Contents) → kept b found ≡ Some t → (b ≡ true) × (found ≡ Ok t)
unfolding kept
kept_back true (Ok x) t e = let same : x ≡ t = cc in (refl, ap Ok same)
kept_back false (Ok x) t e = absurd cc
kept_back b (Err fault) t e = absurd cc

module _ (disk : DiskFacts) (one : HoldsOne disk) (folder : Folder) (each : (kind : TableKind) (key : ℕ) → key < 145 → (found : Found) × Says disk folder (file_name kind key) found) where
  pick : (kind : TableKind) (key : ℕ) → key < 145 → Option Contents
  pick kind key known = kept (is_named folder.manifest (file_name kind key)) (each kind key known).0

  pick_at : (kind : TableKind) (j key : ℕ) (a : j < 145) (b : key < 145) → j ≡ key → pick kind j a ≡ pick kind key b
  unfolding pick
  pick_at kind j key a b e =
      let there = subst (λ n. Says disk folder (file_name kind n) (each kind j a).0) e (each kind j a).1 in
      ap (λ n. kept (is_named folder.manifest (file_name kind n)) (each kind j a).0) e
      ∙ ap (kept (is_named folder.manifest (file_name kind key))) (says_one disk folder (file_name kind key) (each kind j a).0 (each kind key b).0 one there (each kind key b).1)

  of_dtz : (key : ℕ) → (key < 145) ⊎ (145 ≤ key) → Option Contents
  of_dtz key (inl known) = pick Dtz key known
  of_dtz key (inr beyond) = None

  of_slot : (i : ℕ) → (i < 145) ⊎ (145 ≤ i) → Option Contents
  of_slot i (inl known) = pick Wdl i known
  of_slot i (inr beyond) = of_dtz (i - 145) (cases_lt (i - 145) 145)

  abbrev in_slot : ℕ → Option Contents
  in_slot i = of_slot i (cases_lt i 145)

  pub the_whole : Tables
  the_whole = map in_slot (range_with_len 0 290)

  slots : length the_whole ≡ 290
  unfolding the_whole
  slots = length-map (range_with_len 0 290) in_slot ∙ length-range_with_len 0 290

  at : (i : ℕ) → i < 290 → get_or the_whole i None ≡ in_slot i
  unfolding the_whole
  at i within =
      let same : 0 + i ≡ i = omega arith in
      get_or-map in_slot (range_with_len 0 290) i 0 None (omega (arith, within, length-range_with_len 0 290))
      ∙ ap in_slot (get_or-range_with_len 0 290 i 0 within ∙ same)

  dtz_is : (j key : ℕ) (known : key < 145) → j ≡ key → (s : (j < 145) ⊎ (145 ≤ j)) → of_dtz j s ≡ pick Dtz key known
  unfolding of_dtz
  dtz_is j key known e (inl a) = pick_at Dtz j key a known e
  dtz_is j key known e (inr beyond) = absurd (omega (arith, known, beyond, e))

  wdl_slot : (key : ℕ) (known : key < 145) (s : (key < 145) ⊎ (145 ≤ key)) → of_slot key s ≡ pick Wdl key known
  unfolding of_slot
  wdl_slot key known (inl a) = pick_at Wdl key key a known refl
  wdl_slot key known (inr beyond) = absurd (omega (arith, known, beyond))

  dtz_slot : (key : ℕ) (known : key < 145) (s : (145 + key < 145) ⊎ (145 ≤ 145 + key)) → of_slot (145 + key) s ≡ pick Dtz key known
  unfolding of_slot
  dtz_slot key known (inl a) = absurd (omega (arith, a))
  dtz_slot key known (inr beyond) = dtz_is (145 + key - 145) key known (omega arith) (cases_lt (145 + key - 145) 145)

  at_kind : (kind : TableKind) (key : ℕ) (known : key < 145) → table_at the_whole kind key ≡ pick kind key known
  at_kind Wdl key known = at key (omega (arith, known)) ∙ wdl_slot key known (cases_lt key 145)
  at_kind Dtz key known = at (145 + key) (omega (arith, known)) ∙ dtz_slot key known (cases_lt (145 + key) 145)

  of_folder : (kind : TableKind) (key : ℕ) (t : Contents) (known : key < 145) → pick kind key known ≡ Some t → IsTableOf disk folder kind key t
  unfolding pick
  of_folder kind key t known e =
      let back = kept_back (is_named folder.manifest (file_name kind key)) (each kind key known).0 t e in
      let says = subst (Says disk folder (file_name kind key)) back.1 (each kind key known).1 in
      record { has = named_from folder.manifest folder.names (file_name kind key) back.0 (listed_of disk folder (file_name kind key) t says); says = says }

  has_each : (kind : TableKind) (key : ℕ) (t : Contents) (known : key < 145) → IsTableOf disk folder kind key t → pick kind key known ≡ Some t
  unfolding pick kept
  has_each kind key t known is =
      let named = named_to folder.manifest folder.names (file_name kind key) is.has in
      let found = says_one disk folder (file_name kind key) (each kind key known).0 (Ok t) one (each kind key known).1 is.says in
      ap (λ b. kept b (each kind key known).0) named ∙ ap (kept true) found

  pub the_whole_is : IsWhole disk folder the_whole
  the_whole_is = record {
    opened = record {
      slots = slots;
      each = λ kind key t known there. of_folder kind key t known (sym (at_kind kind key known) ∙ there);
    };
    all = λ kind key t known is. at_kind kind key known ∙ has_each kind key t known is;
  }

pub whole_is_there : (disk : DiskFacts) → WholeIsThere disk
whole_is_there disk one folder each = (the_whole disk one folder each, the_whole_is disk one folder each)
