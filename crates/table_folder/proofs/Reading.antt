-- What is read while tables are opened.
use Rattle.std.proofs.Common.{◌≡◌, ◌<◌, ◌+◌, ◌++◌, ◌∷◌, [], ℕ, suc, List, length, map, get_or, set, Option, Some, None, IsSome, Result, Ok, Err, refl, sym, ap, subst, ◌∙◌, inl, inr, arith, append_assoc, append-nil}
use Rattle.std.proofs.lemmas.Bool.{cases_eq, false≢true}
use Rattle.std.proofs.lemmas.List.{get_or-set_same, get_or-set_other, length-append, map-append}
use Rattle.std.proofs.lemmas.List.Elements.{Contains-append_cases, Contains-append_left, Contains-append_right, Contains-push, Contains-push_cases}
use Rattle.std.specs.List.{Contains}
use Rattle.std.specs.Prelude.{IfOk, IsErr}
use Rattle.std.specs.declared.alloc.AllocError.{AllocError}
use Rattle.move_msg.specs.Files.{File}
use Rattle.move_msg.specs.ToldBy.{told_by}
use Rattle.move_msg.specs.declared.told.Manifest.{Manifest}
use Rattle.system_io.proofs.HistoryLaws.{Passes-nil, Passes-trans}
use Rattle.system_io.specs.Disks.{DiskFacts}
use Rattle.system_io.specs.declared.reading.ReadFault.{ReadFault}
use Rattle.system_io.specs.declared.reading.ReadFault.TheVariants.{Unreadable}
use Rattle.table_file.specs.declared.kind.TableKind.{TableKind}
use Rattle.table_file.specs.Names.{file_name}
use Rattle.table_file.specs.Tables.{Contents}
use Rattle.judge_core.specs.MoreTables.{HasAll, table_count}
use Rattle.judge_core.specs.Tables.{Holding, Tables, slot, table_at}
use Rattle.task_files.specs.FileNames.{names_of}
use Rattle.task_files.specs.Outside.{AreNamesIn, AreWantedOf, FolderFails, IsAtItsPath, path_in}
use Rattle.task_files.specs.TableReads.{ListsTables, ReadsTable, listed, table_read}
use Rattle.task_files.specs.TableReads as listing
use Rattle.timeline.specs.Events.{Event, FileRead}
use Rattle.table_folder.specs.declared.fault.FileFault.TheVariants as file
use Rattle.table_folder.specs.declared.fault.FileRefusal.{FileRefusal}
use Rattle.table_folder.specs.Folders.{Folder, Found, Says, digest_in, found_in}
use Rattle.table_folder.specs.Folders as folders
use Rattle.table_folder.specs.Reads.{AreOpened, HasNoRoom, IsOpened, LooksAt, OpensTables, PassesSome, ReadsLast, refusal_of}
use Rattle.table_folder.specs.Inside.{looked}
use Rattle.table_folder.specs.Reads as reads
use Rattle.table_folder.specs.declared.settling.Look.{Look}
use Rattle.table_folder.proofs.Adding.{count_more, slot_below, slots_differ}
use Rattle.table_folder.proofs.Only.{not_both}
use Rattle.table_folder.proofs.Staying.{lacks_too, there_or_not}

-- ---- events

pub passes_none : (a : Option (List Event)) (A : List Event → Type 0) → A [] → PassesSome a a A
passes_none a A none = ([], Passes-nil a, none)

pub passes_so : (a b : Option (List Event)) (A B : List Event → Type 0) → ((more : List Event) → A more → B more) → PassesSome a b A → PassesSome a b B
passes_so a b A B step p = (p.0, p.1, step p.0 p.2)

pub passes_both : (a b c : Option (List Event)) (A B C : List Event → Type 0) → ((x y : List Event) → A x → B y → C (x ++ y)) → PassesSome a b A → PassesSome b c B → PassesSome a c C
passes_both a b c A B C step p q = (p.0 ++ q.0, Passes-trans a b c p.0 q.0 p.1 q.1, step p.0 q.0 p.2 q.2)

-- ---- the folder

-- two results are the same value
ok_is : {A E : Type 0} {r : Result A E} (a b : A) → r ≡ Ok a → r ≡ Ok b → a ≡ b
ok_is a b p q = cc

err_is : {A E : Type 0} {r : Result A E} (a b : E) → r ≡ Err a → r ≡ Err b → a ≡ b
err_is a b p q = cc

-- the names of a folder that was listed
pub names_in_listing : (disk : DiskFacts) (folder : List ℕ) (manifest : Manifest) (wanted : List (List ℕ)) (more : List Event) → ListsTables disk folder manifest (Ok wanted) more → AreNamesIn disk folder (told_by manifest) wanted
names_in_listing disk folder manifest wanted more (listing.Listed names others note lists may are made is) =
    record { names = names; listed = lists; are = subst (AreWantedOf (told_by manifest) names) (sym (ok_is wanted others refl is)) are }
names_in_listing disk folder manifest wanted more (listing.NotListed fault cause made is) = absurd cc
names_in_listing disk folder manifest wanted more (listing.ListedTwice names note lists may fault cause made is) = absurd cc

-- why it couldn't be listed
pub fails_by_listing : (disk : DiskFacts) (folder : List ℕ) (manifest : Manifest) (more : List Event) → ListsTables disk folder manifest (Err Unreadable) more → FolderFails disk folder (told_by manifest)
fails_by_listing disk folder manifest more (listing.Listed names others note lists may are made is) = absurd cc
fails_by_listing disk folder manifest more (listing.NotListed fault cause made is) = inl (cause (sym (err_is Unreadable fault refl is)))
fails_by_listing disk folder manifest more (listing.ListedTwice names note lists may fault cause made is) = inr (names, lists, inl (cause (sym (err_is Unreadable fault refl is))))

-- ---- one file

-- what is found by a look at a file is what the file says
pub says_so : (disk : DiskFacts) (folder : Folder) (name : List ℕ) (found : Result Found AllocError) (more : List Event) → LooksAt disk folder name found more → IfOk found (Says disk folder name)
says_so disk folder name (Err e) more looks = tt
says_so disk folder name (Ok found) more (reads.NotListed none is made) = folders.NotListed none (ok_is found _ refl is)
says_so disk folder name (Ok found) more (reads.NotRead listed fails is made) = folders.NotRead listed fails (ok_is found _ refl is)
says_so disk folder name (Ok found) more (reads.IsRead listed f named at is made) =
    folders.Read listed f.bytes (subst (λ n. disk.holds (path_in folder.path n) f.bytes) named at.0) (ok_is found _ refl is)
says_so disk folder name (Ok found) more (reads.NoRoomForTable listed r read e is) = absurd cc

-- a listed file that was read, by what its bytes say
looks_by : (disk : DiskFacts) (folder : Folder) (name : List ℕ) (f : File) (r : Result Found AllocError) (more : List Event) → Contains folder.names name → IfOk r (λ found. found ≡ found_in (digest_in folder.manifest name) name f.bytes) → ReadsTable disk folder.path name (Ok f) more → LooksAt disk folder name r more
looks_by disk folder name f (Err e) more listed found read = reads.NoRoomForTable listed (Ok f) read e refl
looks_by disk folder name f (Ok x) more listed found (listing.IsRead g named at made is) =
    let same : g ≡ f = sym (ok_is f g refl is) in
    reads.IsRead listed g named at (ap Ok (found ∙ ap (λ (h : File). found_in (digest_in folder.manifest name) name h.bytes) (sym same))) made
looks_by disk folder name f (Ok x) more listed found (listing.NotRead fault cause made is) = absurd cc
looks_by disk folder name f (Ok x) more listed found (listing.NoPath made is) = absurd cc

pub looks_by_file : (disk : DiskFacts) (folder : Folder) (name : List ℕ) (f : File) (r : Result Found AllocError) (a b : Option (List Event)) → Contains folder.names name → IfOk r (λ found. found ≡ found_in (digest_in folder.manifest name) name f.bytes) → PassesSome a b (ReadsTable disk folder.path name (Ok f)) → PassesSome a b (LooksAt disk folder name r)
looks_by_file disk folder name f r a b listed found p = (p.0, p.1, looks_by disk folder name f r p.0 listed found p.2)

-- one that can't be read
unread : (disk : DiskFacts) (folder : Folder) (name : List ℕ) (more : List Event) → Contains folder.names name → ReadsTable disk folder.path name (Err Unreadable) more → LooksAt disk folder name (Ok (Err file.Unreadable)) more
unread disk folder name more listed (listing.IsRead g named at made is) = absurd cc
unread disk folder name more listed (listing.NotRead fault cause made is) =
    let same : fault ≡ Unreadable = sym (err_is Unreadable fault refl is) in
    reads.NotRead listed (cause same) refl (made ∙ ap (λ x. FileRead (path_in folder.path name) (Err x) ∷ []) same)
unread disk folder name more listed (listing.NoPath made is) = absurd cc

pub looks_unread : (disk : DiskFacts) (folder : Folder) (name : List ℕ) (a b : Option (List Event)) → Contains folder.names name → PassesSome a b (ReadsTable disk folder.path name (Err Unreadable)) → PassesSome a b (LooksAt disk folder name (Ok (Err file.Unreadable)))
looks_unread disk folder name a b listed p = (p.0, p.1, unread disk folder name p.0 listed p.2)

-- one for which memory was refused
pub looks_no_room : (disk : DiskFacts) (folder : Folder) (name : List ℕ) (fault : ReadFault) (e : AllocError) (a b : Option (List Event)) → Contains folder.names name → PassesSome a b (ReadsTable disk folder.path name (Err fault)) → PassesSome a b (LooksAt disk folder name (Err e))
looks_no_room disk folder name fault e a b listed p = (p.0, p.1, reads.NoRoomForTable listed (Err fault) p.2 e refl)

-- one that isn't listed
pub looks_nowhere : (disk : DiskFacts) (folder : Folder) (name : List ℕ) (a : Option (List Event)) → (Contains folder.names name → ⊥) → PassesSome a a (LooksAt disk folder name (Ok (Err file.Missing)))
looks_nowhere disk folder name a none = ([], Passes-nil a, reads.NotListed none refl refl)

-- ---- tables

none_opened : (disk : DiskFacts) (folder : Folder) (tables : Tables) → AreOpened disk folder tables tables []
none_opened disk folder tables = record {
  kept = λ kind key t there. there;
  each = λ f h. absurd (omega (arith, h.1));
  all = λ kind key known none some. absurd (not_both (table_at tables kind key) none some);
  count = omega arith;
}

-- a file that was opened stays one while the set gets more tables
still_opened : {disk : DiskFacts} {folder : Folder} (old mid new : Tables) (f : File) → HasAll mid new → IsOpened disk folder old mid f → IsOpened disk folder old new f
still_opened old mid new f kept h = record {
  kind = h.kind;
  key = h.key;
  known = h.known;
  name = h.name;
  at = h.at;
  lacked = h.lacked;
  table = h.table;
  has = kept h.kind h.key h.table h.has;
  says = h.says;
}

-- so is one whose table the set lacked before it got others
opened_before : {disk : DiskFacts} {folder : Folder} (old mid new : Tables) (f : File) → HasAll old mid → IsOpened disk folder mid new f → IsOpened disk folder old new f
opened_before old mid new f kept h = record {
  kind = h.kind;
  key = h.key;
  known = h.known;
  name = h.name;
  at = h.at;
  lacked = lacks_too old mid h.kind h.key kept h.lacked;
  table = h.table;
  has = h.has;
  says = h.says;
}

more_opened : {disk : DiskFacts} {folder : Folder} (old mid new : Tables) (first second : List File) → AreOpened disk folder old mid first → AreOpened disk folder mid new second → AreOpened disk folder old new (first ++ second)
more_opened {disk = disk} {folder = folder} old mid new first second p q = record {
  kept = λ kind key t there. q.kept kind key t (p.kept kind key t there);
  each = λ f h. elim (Contains-append_cases first second f h) [
    | inl before ↦ still_opened old mid new f q.kept (p.each f before)
    | inr after ↦ opened_before old mid new f p.kept (q.each f after)
  ];
  all = λ kind key known none some.
      subst (λ ns. Contains ns (file_name kind key)) (sym (map-append (λ (f : File). f.name) first second))
      (elim (there_or_not (table_at mid kind key)) [
        | inl lacks ↦ Contains-append_right (names_of first) (names_of second) (file_name kind key) (q.all kind key known lacks some)
        | inr (t, has) ↦ Contains-append_left (names_of first) (names_of second) (file_name kind key) (p.all kind key known none (rw has refl))
      ]);
  count = omega (arith, length-append first second, p.count, q.count);
}

-- one table, which is put into its empty slot
one_opened : {disk : DiskFacts} {folder : Folder} (old new : Tables) (kind : TableKind) (key : ℕ) (table : Contents) (f : File) → key < 145 → length old ≡ 290 → table_at old kind key ≡ None → new ≡ set old (slot kind key) (Some table) → f.name ≡ file_name kind key → IsAtItsPath disk folder.path f → found_in (digest_in folder.manifest f.name) f.name f.bytes ≡ Ok table
    → AreOpened disk folder old new (f ∷ [])
one_opened {disk = disk} {folder = folder} old new kind key table f known slots lacks put named at says =
    rw put (record {
      kept = λ other k t there.
          elim (cases_eq (slot other k) (slot kind key)) [
            | inl same ↦ let none = sym there ∙ ap (λ i. get_or old i None) same ∙ lacks in absurd cc
            | inr ne ↦ get_or-set_other old (slot kind key) (slot other k) (Some table) None ne ∙ there
          ];
      each = λ g h. elim (Contains-push_cases [] f g h) [
        | inl none ↦ absurd (omega (arith, none.1))
        | inr same ↦ subst (IsOpened disk folder old (set old (slot kind key) (Some table))) same here
      ];
      all = λ other k lt none some.
          elim (cases_eq (slot other k) (slot kind key)) [
            | inl same ↦ let both = slots_differ other kind k key lt known same in rw (both.0, both.1) (subst (λ n. Contains (n ∷ []) (file_name kind key)) (sym named) (Contains-push [] (file_name kind key)))
            | inr ne ↦ absurd (not_both (table_at old other k) none (rw (get_or-set_other old (slot kind key) (slot other k) (Some table) None ne) at some))
          ];
      count = omega (arith, count_more old (slot kind key) table fits lacks);
    })
  where
    fits : slot kind key < length old
    fits = omega (arith, slot_below kind key known, slots)

    here : IsOpened disk folder old (set old (slot kind key) (Some table)) f
    here = record {
      kind = kind;
      key = key;
      known = known;
      name = named;
      at = at;
      lacked = lacks;
      table = table;
      has = get_or-set_same old (slot kind key) (Some table) None fits;
      says = says;
    }

-- ---- what is read for a question

pub opens_none : (disk : DiskFacts) (folder : Folder) (tables : Tables) → OpensTables disk folder tables tables (Ok None) []
opens_none disk folder tables = record { files = []; opened = none_opened disk folder tables; last = []; ends = refl; made = refl }

-- the same, and memory was refused
pub opens_till : (disk : DiskFacts) (folder : Folder) (old new : Tables) (e : AllocError) (more : List Event) → OpensTables disk folder old new (Ok None) more → OpensTables disk folder old new (Err e) more
opens_till disk folder old new e more h = record { files = h.files; opened = h.opened; last = h.last; ends = inl h.ends; made = h.made }

-- nothing was read, and the set is as it was
pub opens_nothing : (disk : DiskFacts) (folder : Folder) (old new : Holding) (a : Option (List Event)) → new ≡ old → PassesSome a a (OpensTables disk folder old.tables new.tables (Ok None))
opens_nothing disk folder old new a same = subst (λ (h : Holding). PassesSome a a (OpensTables disk folder old.tables h.tables (Ok None))) (sym same) (passes_none a _ (opens_none disk folder old.tables))

-- memory was refused, for whatever was asked
opens_err : (disk : DiskFacts) (folder : Folder) (old new : Tables) (e other : AllocError) (more : List Event) → OpensTables disk folder old new (Err e) more → OpensTables disk folder old new (Err other) more
opens_err disk folder old new e other more h = record { files = h.files; opened = h.opened; last = h.last; ends = h.ends; made = h.made }

pub opens_for_err : {A : Type 0} (disk : DiskFacts) (folder : Folder) (old new : Tables) (r : Result (Result A FileRefusal) AllocError) (e : AllocError) (a b : Option (List Event)) → IsErr r → PassesSome a b (OpensTables disk folder old new (Err e)) → PassesSome a b (OpensTables disk folder old new (refusal_of r))
opens_for_err disk folder old new (Ok x) e a b is p = absurd (false≢true is)
opens_for_err disk folder old new (Err other) e a b is p = passes_so a b _ _ (opens_err disk folder old new e other) p

pub looks_for_err : (disk : DiskFacts) (folder : Folder) (old new : Tables) (r : Result Look AllocError) (e : AllocError) (a b : Option (List Event)) → IsErr r → PassesSome a b (OpensTables disk folder old new (Err e)) → PassesSome a b (OpensTables disk folder old new (looked r))
looks_for_err disk folder old new (Ok x) e a b is p = absurd (false≢true is)
looks_for_err disk folder old new (Err other) e a b is p = passes_so a b _ _ (opens_err disk folder old new e other) p

pub opens_more : (disk : DiskFacts) (folder : Folder) (old mid new : Tables) (r : Result (Option FileRefusal) AllocError) (x y : List Event) → OpensTables disk folder old mid (Ok None) x → OpensTables disk folder mid new r y → OpensTables disk folder old new r (x ++ y)
opens_more disk folder old mid new r x y p q =
    let read = table_read folder.path in
    let first : x ≡ map read p.files = p.made ∙ ap (λ l. map read p.files ++ l) p.ends ∙ append-nil (map read p.files) in record {
      files = p.files ++ q.files;
      opened = more_opened old mid new p.files q.files p.opened q.opened;
      last = q.last;
      ends = q.ends;
      made = ap (λ l. l ++ y) first ∙ ap (λ l. map read p.files ++ l) q.made ∙ sym (append_assoc (map read p.files) (map read q.files) q.last) ∙ ap (λ l. l ++ q.last) (sym (map-append read p.files q.files));
    }

-- the file of a table that the set lacked, whose table it has now
opens_one : (disk : DiskFacts) (folder : Folder) (old new : Tables) (kind : TableKind) (key : ℕ) (table : Contents) (more : List Event) → key < 145 → length old ≡ 290 → table_at old kind key ≡ None → new ≡ set old (slot kind key) (Some table) → LooksAt disk folder (file_name kind key) (Ok (Ok table)) more → OpensTables disk folder old new (Ok None) more
opens_one disk folder old new kind key table more known slots lacks put (reads.NotListed none is made) = absurd cc
opens_one disk folder old new kind key table more known slots lacks put (reads.NotRead listed fails is made) = absurd cc
opens_one disk folder old new kind key table more known slots lacks put (reads.IsRead listed f named at is made) = record {
  files = f ∷ [];
  opened = one_opened old new kind key table f known slots lacks put named at (subst (λ n. found_in (digest_in folder.manifest n) n f.bytes ≡ Ok table) (sym named) (sym (ok_is _ _ refl is)));
  last = [];
  ends = refl;
  made = made;
}
opens_one disk folder old new kind key table more known slots lacks put (reads.NoRoomForTable listed r read e is) = absurd cc

-- by what is found in the file of a table that the set lacked: it has that table now; or it is as it was
pub opens_by : (disk : DiskFacts) (folder : Folder) (old new : Tables) (kind : TableKind) (key : ℕ) (table : Contents) (a b : Option (List Event)) → key < 145 → length old ≡ 290 → table_at old kind key ≡ None → new ≡ set old (slot kind key) (Some table) → PassesSome a b (LooksAt disk folder (file_name kind key) (Ok (Ok table))) → PassesSome a b (OpensTables disk folder old new (Ok None))
opens_by disk folder old new kind key table a b known slots lacks put looks = (looks.0, looks.1, opens_one disk folder old new kind key table looks.0 known slots lacks put looks.2)

pub opens_refused : (disk : DiskFacts) (folder : Folder) (tables : Tables) (name : List ℕ) (refusal : FileRefusal) (a b : Option (List Event)) → refusal.name.bytes ≡ name → PassesSome a b (LooksAt disk folder name (Ok (Err refusal.fault))) → PassesSome a b (OpensTables disk folder tables tables (Ok (Some refusal)))
opens_refused disk folder tables name refusal a b named looks = (
  looks.0,
  looks.1,
  record {
    files = [];
    opened = none_opened disk folder tables;
    last = looks.0;
    ends = subst (λ n. LooksAt disk folder n (Ok (Err refusal.fault)) looks.0) (sym named) looks.2;
    made = refl;
  },
)

pub opens_no_more : (disk : DiskFacts) (folder : Folder) (tables : Tables) (kind : TableKind) (key : ℕ) (e : AllocError) (a b : Option (List Event)) → key < 145 → table_at tables kind key ≡ None → PassesSome a b (LooksAt disk folder (file_name kind key) (Err e)) → PassesSome a b (OpensTables disk folder tables tables (Err e))
opens_no_more disk folder tables kind key e a b known lacks looks = (
  looks.0,
  looks.1,
  record {
    files = [];
    opened = none_opened disk folder tables;
    last = looks.0;
    ends = inr (record { kind = kind; key = key; known = known; lacks = lacks; error = e; looks = looks.2 });
    made = refl;
  },
)

-- some tables, and then others
pub opens_both : (disk : DiskFacts) (folder : Folder) (old mid new : Tables) (r : Result (Option FileRefusal) AllocError) (a b c : Option (List Event)) → PassesSome a b (OpensTables disk folder old mid (Ok None)) → PassesSome b c (OpensTables disk folder mid new r) → PassesSome a c (OpensTables disk folder old new r)
opens_both disk folder old mid new r a b c p q =
    passes_both a b c (OpensTables disk folder old mid (Ok None)) (OpensTables disk folder mid new r) (OpensTables disk folder old new r) (opens_more disk folder old mid new r) p q
