-- Schedules that are run, and what is told of them.
use Rattle.std.proofs.Common.{◌≡◌, ◌≢◌, ◌<◌, ◌≤◌, ◌+◌, ◌⊎◌, ℕ, zero, suc, List, [], ◌∷◌, length, map, get_or, replicate, Option, Some, None, Result, Ok, Err, refl, sym, ap, ◌∙◌, subst, arith, inl, inr}
use Rattle.std.specs.Prelude.{is_some, if◌then◌else◌, slice_get, slice_set}
use Rattle.std.specs.Ordering.{nat_cmp, ordering_reverse}
use Rattle.std.specs.Cmp.Lexicographic.{slice_cmp}
use Rattle.std.specs.declared.cmp.Ordering.TheVariants.{Less, Greater}
use Rattle.std.proofs.lemmas.Cmp.{nat_list_cmp_total}
use Rattle.std.proofs.lemmas.List.{get_or-set_other, length-map}
use Rattle.std.proofs.lemmas.Option.{slice_get_cases}
use Rattle.table_file.specs.declared.fault.TableFault.{TableFault}
use Rattle.table_file.specs.declared.kind.TableKind.{TableKind}
use Rattle.table_file.specs.declared.kind.TableKind.TheVariants.{Wdl, Dtz}
use Rattle.table_file.specs.Layouts.{IsLayout, ReadsWhatIsLaidOut}
use Rattle.table_file.specs.Names.{file_name}
use Rattle.table_file.specs.Tables.{Contents}
use Rattle.judge_core.specs.Tables.{Tables, slot, table_at}
use Rattle.move_msg.specs.Files.{File, AreSorted}
use Rattle.relay_world.specs.declared.fault.WorldFault.{WorldFault}
use Rattle.relay_world.specs.declared.fault.WorldFault.TheVariants.{BadTable, DuplicateTable, OutOfMemory}
use Rattle.relay_world.specs.Gathering.{and_then, with_table, tables_from, tables_of, found_in}

-- ---- the place of the first file that is no table

abbrev Found : Type 0
Found = Result Contents TableFault

abbrev place_in : Result Tables WorldFault → ℕ
place_in (Ok tables) = 0
place_in (Err (BadTable place fault)) = place
place_in (Err (DuplicateTable place)) = place
place_in (Err OutOfMemory) = 0

-- the place is this one, or one of so many after it
abbrev IsBetween : ℕ → ℕ → ℕ → Type 0
IsBetween start place many = (start ≤ place) × (place < start + many)

-- what is found at a place is at fault there, or nothing is and what follows decides
step : (tables : Tables) (start place many : ℕ) (fault : TableFault) (found : Found) (next : Tables → Result Tables WorldFault) → ((more : Tables) → next more ≡ Err (BadTable place fault) → IsBetween (suc start) place many) → and_then (with_table tables start found) next ≡ Err (BadTable place fault) → IsBetween start place (suc many)
step tables start place many fault (Err other) next later e = let same : start ≡ place = ap place_in e in (omega arith, omega arith)
step tables start place many fault (Ok t) next later e = by_slot (table_at tables t.kind t.material) e
  where
    by_slot : (o : Option Contents) → and_then (if is_some o then Err (DuplicateTable start) else Ok (slice_set tables (slot t.kind t.material) (Some t))) next ≡ Err (BadTable place fault) → IsBetween start place (suc many)
    by_slot None e = let h = later (slice_set tables (slot t.kind t.material) (Some t)) e in (omega (arith, h.0), omega (arith, h.1))
    by_slot (Some x) e = absurd (cc)

within : (founds : List Found) (tables : Tables) (start place : ℕ) (fault : TableFault) → tables_from tables start founds ≡ Err (BadTable place fault) → IsBetween start place (length founds)
unfolding tables_from
within [] tables start place fault e = absurd (cc)
within (found ∷ founds) tables start place fault e =
    step tables start place (length founds) fault found (λ more. tables_from more (suc start) founds) (λ more. within founds more (suc start) place fault) e

pub in_files : {X : Type 0} (view : X → File) (files : List X) (place : ℕ) (fault : TableFault) → tables_of (map view files) ≡ Err (BadTable place fault) → place < length files
in_files view files place fault e =
    let h = within (map found_in (map view files)) (replicate 290 None) 0 place fault e in
    omega (arith, h.1, length-map (map view files) found_in, length-map files view)

-- a fault that is not want of memory is that of the files
pub the_fault : (found : Result Tables WorldFault) (fault told : WorldFault) → (told ≡ OutOfMemory → ⊥) → fault ≡ told → (fault ≡ OutOfMemory) ⊎ (found ≡ Err fault) → found ≡ Err told
the_fault found fault told other is (inl memory) = absurd (other (sym is ∙ memory))
the_fault found fault told other is (inr h) = h ∙ ap Err is

-- ---- files of different names are different tables

-- the name of a file is that of the table that it is
record IsNamed (f : File) (t : Contents) : Type 0 where
  pub known : t.material < 145
  pub name : f.name ≡ file_name t.kind t.material

named : ReadsWhatIsLaidOut → (f : File) (t : Contents) → found_in f ≡ Ok t → IsNamed f t
named laid f t e = let l : IsLayout f.name f.bytes t = (laid f.name f.bytes t).0 e in record { known = l.head.known; name = l.head.named }

-- a slot is that of one name
one_name : (k j : TableKind) (m n : ℕ) → m < 145 → n < 145 → slot k m ≡ slot j n → file_name k m ≡ file_name j n
one_name Wdl Wdl m n lm ln e = ap (file_name Wdl) e
one_name Wdl Dtz m n lm ln e = absurd (omega arith)
one_name Dtz Wdl m n lm ln e = absurd (omega arith)
one_name Dtz Dtz m n lm ln e = ap (file_name Dtz) {x = m} {y = n} (omega arith)

-- the file's name is none of these
abbrev IsApart : List ℕ → List File → Type 0
IsApart name [] = Unit {0}
IsApart name (f ∷ others) = (name ≡ f.name → ⊥) × IsApart name others

abbrev AreApart : List File → Type 0
AreApart [] = Unit {0}
AreApart (f ∷ others) = IsApart f.name others × AreApart others

differ : (a b : List ℕ) → slice_cmp nat_cmp a b ≡ Less → a ≡ b → ⊥
differ a b less same =
    let other : slice_cmp nat_cmp b a ≡ Less = subst (λ x. slice_cmp nat_cmp x a ≡ Less) same (subst (λ y. slice_cmp nat_cmp a y ≡ Less) (sym same) less) in
    let back : slice_cmp nat_cmp a b ≡ Greater = nat_list_cmp_total.antisymm a b ∙ ap ordering_reverse other in
    let bad : Less ≡ Greater = sym less ∙ back in
    cc

before : (name : List ℕ) (f : File) (others : List File) → slice_cmp nat_cmp name f.name ≡ Less → AreSorted (f ∷ others) → IsApart name (f ∷ others)
before name f [] less sorted = (differ name f.name less, tt)
before name f (g ∷ others) less sorted =
    (differ name f.name less, before name g others (nat_list_cmp_total.trans name f.name g.name less sorted.0) sorted.1)

all_apart : (files : List File) → AreSorted files → AreApart files
all_apart [] sorted = tt
all_apart (f ∷ []) sorted = (tt, tt)
all_apart (f ∷ g ∷ others) sorted = (before f.name g others sorted.0 sorted.1, all_apart (g ∷ others) sorted.1)

-- the slots of the tables that files are, are free
abbrev AreFree : Tables → List File → Type 0
AreFree tables [] = Unit {0}
AreFree tables (f ∷ others) = ((t : Contents) → found_in f ≡ Ok t → table_at tables t.kind t.material ≡ None) × AreFree tables others

still_free : ReadsWhatIsLaidOut → (f : File) (c : Contents) (tables : Tables) (others : List File) → found_in f ≡ Ok c → IsApart f.name others → AreFree tables others → AreFree (slice_set tables (slot c.kind c.material) (Some c)) others
still_free laid f c tables [] is apart free = tt
still_free laid f c tables (g ∷ others) is apart free = (
  λ t found.
      let n = named laid f c is in
      let o = named laid g t found in
      let other : slot t.kind t.material ≢ slot c.kind c.material = λ same. apart.0 (n.name ∙ one_name c.kind t.kind c.material t.material n.known o.known (sym same) ∙ sym o.name) in
      get_or-set_other tables (slot c.kind c.material) (slot t.kind t.material) (Some c) None other ∙ free.0 t found,
  still_free laid f c tables others is apart.1 free.1,
)

-- a file whose slot is free is at fault, or what follows is
free_step : (tables : Tables) (start place : ℕ) (f : File) (next : Tables → Result Tables WorldFault) → ((t : Contents) → found_in f ≡ Ok t → table_at tables t.kind t.material ≡ None) → ((t : Contents) → found_in f ≡ Ok t → next (slice_set tables (slot t.kind t.material) (Some t)) ≡ Err (DuplicateTable place) → ⊥) → (r : Found) → found_in f ≡ r → and_then (with_table tables start r) next ≡ Err (DuplicateTable place) → ⊥
free_step tables start place f next free later (Err fault) is e = cc
free_step tables start place f next free later (Ok t) is e = by_slot (table_at tables t.kind t.material) (free t is) e
  where
    by_slot : (o : Option Contents) → o ≡ None → and_then (if is_some o then Err (DuplicateTable start) else Ok (slice_set tables (slot t.kind t.material) (Some t))) next ≡ Err (DuplicateTable place) → ⊥
    by_slot None none e = later t is e
    by_slot (Some x) none e = cc

none_twice : ReadsWhatIsLaidOut → (files : List File) (tables : Tables) (start place : ℕ) → AreApart files → AreFree tables files → tables_from tables start (map found_in files) ≡ Err (DuplicateTable place) → ⊥
unfolding tables_from
none_twice laid [] tables start place apart free e = cc
none_twice laid (f ∷ others) tables start place apart free e =
    free_step tables start place f (λ more. tables_from more (suc start) (map found_in others)) free.0
    (λ t is. none_twice laid others (slice_set tables (slot t.kind t.material) (Some t)) (suc start) place apart.1 (still_free laid f t tables others is apart.0 free.1))
    (found_in f) refl e

abbrev no_table : Option Contents
no_table = None

nothing_at : (n i : ℕ) → get_or (replicate n no_table) i None ≡ None
nothing_at zero i = refl
nothing_at (suc n) zero = refl
nothing_at (suc n) (suc i) = nothing_at n i

all_free : (files : List File) → AreFree (replicate 290 no_table) files
all_free [] = tt
all_free (f ∷ others) = ((λ t found. nothing_at 290 (slot t.kind t.material)), all_free others)

-- no file of a folder is a table of the kind and the men of another
pub no_duplicate : ReadsWhatIsLaidOut → (files : List File) (place : ℕ) → AreSorted files → tables_of files ≡ Err (DuplicateTable place) → ⊥
no_duplicate laid files place sorted e = none_twice laid files (replicate 290 no_table) 0 place (all_apart files sorted) (all_free files) e

-- ---- the last world

pub last_of : {W : Type 0} (worlds : List W) (many : ℕ) → length worlds ≡ many + 1 → (last : W) × (slice_get worlds many ≡ Some last)
last_of worlds many e =
    elim (slice_get_cases worlds many).1 [
      | inl there ↦ (there.0, there.2)
      | inr past ↦ absurd (let l : length worlds ≤ many = past.0 in omega arith)
    ]
