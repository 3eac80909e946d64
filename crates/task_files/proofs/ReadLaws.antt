-- The table files of a folder, as they are read over a timeline.
use Rattle.std.proofs.Common.{◌≡◌, ◌∙◌, ◌++◌, ◌∷◌, ◌+◌, ◌<◌, ◌≤◌, [], ℕ, List, ap, drop, drop-cons, get_or, inl, inr, length, map, refl, subst, suc, sym, take, take-append-drop}
use Rattle.std.proofs.lemmas.List.{map-append, take_more}
use Rattle.std.proofs.lemmas.List.Elements.{Contains-push_cases}
use Rattle.std.specs.Global.{Global}
use Rattle.std.specs.List.{AllByRecursion, Contains}
use Rattle.std.specs.Prelude.{Result, Ok, Err, Vec, IfOk, IsErrOf}
use Rattle.move_msg.specs.Files.{AreFiles, File, table_file_of}
use Rattle.move_msg.specs.TableNames.{IsFileName}
use Rattle.move_msg.specs.ToldBy.{told_by}
use Rattle.move_msg.specs.declared.files.NamedFile.{NamedFile}
use Rattle.move_msg.specs.declared.told.Manifest.{Manifest}
use Rattle.system_io.specs.Disks.{AtFile, DiskFacts, most_bytes}
use Rattle.system_io.specs.declared.reading.ReadFault.{ReadFault}
use Rattle.system_io.specs.declared.reading.ReadFault.TheVariants.{OutOfMemory, Unreadable}
use Rattle.timeline.proofs.EventLaws.{adds_more}
use Rattle.timeline.specs.Events.{Event, FileRead, FolderListed}
use Rattle.timeline.specs.Outsides.{Adds, AddsSome, Outside}
use Rattle.task_files.specs.FileNames.{names_of}
use Rattle.task_files.specs.Outside.{AreWantedOf, IsAtItsPath, ListsTwice, path_in}
use Rattle.task_files.specs.TableReads.{AllRead, AreRead, FilesRead, FolderUnlisted, HasTable, Listed, ListedTwice, ListsTables, MayNote, NoRoomFor, NotListed, OneUnread, ReadsFolder, ReadsTable, ReadsTables, listed, table_read, taken, taken_file}
use Rattle.task_files.specs.TableReads as reads
use Rattle.task_files.proofs.NameLaws.{are_files}

-- two results are the same value
ok_is : {A E : Type 0} {r : Result A E} (a b : A) → r ≡ Ok a → r ≡ Ok b → a ≡ b
ok_is a b p q = cc

-- ---- the names

pub none_more : (names more : List (List ℕ)) (name : List ℕ) → more ≡ names ++ name ∷ [] → (HasTable names → ⊥) → (IsFileName name → ⊥) → HasTable more → ⊥
none_more names more name is none other h =
    elim (Contains-push_cases names name h.0 (subst (λ (ns : List (List ℕ)). Contains ns h.0) is h.1)) [
      | inl before ↦ none (h.0, before, h.2)
      | inr same ↦ other (subst IsFileName (sym same) h.2)
    ]

-- a folder that was listed: its wanted names, or why they aren't known
pub lists_so : {T P F K S L : Type 0} (o : Outside T P F K S L) (a b c : T) (folder : List ℕ) (manifest : Manifest) (names : List (List ℕ)) (r : Result (Vec (List ℕ) Global) ReadFault)
    → o.disk.lists folder names → IfOk r (λ wanted. AreWantedOf (told_by manifest) names wanted.items) → (IsErrOf r Unreadable → ListsTwice (told_by manifest) names)
    → Adds o a b (FolderListed folder (Ok names) ∷ []) → AddsSome o b c (MayNote folder names) → AddsSome o a c (ListsTables o.disk folder manifest (listed r))
lists_so o a b c folder manifest names (Ok wanted) lists are cause p q = (
  FolderListed folder (Ok names) ∷ q.0,
  adds_more o a b c (FolderListed folder (Ok names) ∷ []) q.0 p q.1,
  Listed names wanted.items q.0 lists q.2 are refl refl,
)
lists_so o a b c folder manifest names (Err e) lists are cause p q = (
  FolderListed folder (Ok names) ∷ q.0,
  adds_more o a b c (FolderListed folder (Ok names) ∷ []) q.0 p q.1,
  ListedTwice names q.0 lists q.2 e (λ (same : e ≡ Unreadable). cause (ap Err same)) refl refl,
)

-- ---- the files

-- the files of the first of these names were read
pub record HasRead {T P F K S L : Type 0} (o : Outside T P F K S L) (folder : List ℕ) (names : List (List ℕ)) (files : List File) (old new : T) : Type 0 where
  pub are : AreRead o.disk folder names files
  pub made : Adds o old new (map (table_read folder) files)

all_more : (P : File → Type 0) (f : File) → P f → (fs : List File) → AllByRecursion P fs → AllByRecursion P (fs ++ f ∷ [])
all_more P f here [] h = (here, tt)
all_more P f here (g ∷ fs) h = (h.0, all_more P f here fs h.1)

abbrev name_of : File → List ℕ
name_of f = f.name

-- one file more was read
read_one : {T P F K S L : Type 0} (o : Outside T P F K S L) (a b c : T) (folder : List ℕ) (names : List (List ℕ)) (name : List ℕ) (files : List File) (f : File) (more : List Event) → HasRead o folder names files a b → f.name ≡ name → IsAtItsPath o.disk folder f → more ≡ table_read folder f ∷ [] → Adds o b c more
    → HasRead o folder (names ++ name ∷ []) (files ++ f ∷ []) a c
read_one o a b c folder names name files f more h named at is p = record {
  are = record {
    named = map-append name_of files (f ∷ []) ∙ ap (λ (ns : List (List ℕ)). ns ++ f.name ∷ []) h.are.named ∙ ap (λ (n : List ℕ). names ++ n ∷ []) named;
    bytes = all_more (IsAtItsPath o.disk folder) f at files h.are.bytes;
  };
  made = subst (λ (e : List Event). Adds o a c e) (ap (λ (e : List Event). map (table_read folder) files ++ e) is ∙ sym (map-append (table_read folder) files (f ∷ []))) (adds_more o a b c (map (table_read folder) files) more h.made p);
}

pub read_more : {T P F K S L : Type 0} (o : Outside T P F K S L) (a b c : T) (folder : List ℕ) (names : List (List ℕ)) (name : List ℕ) (files : List File) (f : File) → HasRead o folder names files a b → AddsSome o b c (ReadsTable o.disk folder name (Ok f))
    → HasRead o folder (names ++ name ∷ []) (files ++ f ∷ []) a c
read_more o a b c folder names name files f h (more, p, reads.IsRead g named at is same) =
    subst (λ (x : File). HasRead o folder (names ++ name ∷ []) (files ++ x ∷ []) a c) (sym (ok_is f g refl same)) (read_one o a b c folder names name files g more h named at is p)
read_more o a b c folder names name files f h (more, p, reads.NotRead fault cause is same) = absurd (cc)
read_more o a b c folder names name files f h (more, p, reads.NoPath is same) = absurd (cc)

-- one that wasn't read ends it
pub read_cut : {T P F K S L : Type 0} (o : Outside T P F K S L) (a b c : T) (folder : List ℕ) (all names : List (List ℕ)) (name : List ℕ) (after : List (List ℕ)) (files : List File) (fault : ReadFault) → all ≡ names ++ name ∷ after → HasRead o folder names files a b → AddsSome o b c (ReadsTable o.disk folder name (Err fault))
    → AddsSome o a c (ReadsTables o.disk folder all (Err fault))
read_cut o a b c folder all names name after files fault is h q = (
  map (table_read folder) files ++ q.0,
  adds_more o a b c (map (table_read folder) files) q.0 h.made q.1,
  OneUnread files name after q.0 fault (is ∙ ap (λ (ns : List (List ℕ)). ns ++ name ∷ after) (sym h.are.named)) h.are.bytes q.2 refl refl,
)

-- so does one that can't be kept
pub read_full : {T P F K S L : Type 0} (o : Outside T P F K S L) (a b : T) (folder : List ℕ) (all names after : List (List ℕ)) (files : List File) → all ≡ names ++ after → HasRead o folder names files a b → AddsSome o a b (ReadsTables o.disk folder all (Err OutOfMemory))
read_full o a b folder all names after files is h = (map (table_read folder) files, h.made, NoRoomFor files after (is ∙ ap (λ (ns : List (List ℕ)). ns ++ after) (sym h.are.named)) h.are.bytes refl refl)

pub read_whole : {T P F K S L : Type 0} (o : Outside T P F K S L) (a b : T) (folder : List ℕ) (all names : List (List ℕ)) (files : List File) → names ≡ all → HasRead o folder names files a b → AddsSome o a b (ReadsTables o.disk folder all (Ok files))
read_whole o a b folder all names files is h = (
  map (table_read folder) files,
  h.made,
  AllRead files (record { named = h.are.named ∙ is; bytes = h.are.bytes }) refl refl,
)

pub name_more : (names : List (List ℕ)) (i : ℕ) (d : List ℕ) → i < length names → d ≡ get_or names i d → take (i + 1) names ≡ take i names ++ d ∷ []
name_more names i d lt is = take_more names i d lt ∙ ap (λ (n : List ℕ). take i names ++ n ∷ []) (sym is)

pub names_parted : (names : List (List ℕ)) (i : ℕ) (d : List ℕ) → i < length names → d ≡ get_or names i d → names ≡ take i names ++ d ∷ drop (suc i) names
names_parted names i d lt is = sym (take-append-drop i names) ∙ ap (λ (ns : List (List ℕ)). take i names ++ ns) (drop-cons names i d lt ∙ ap (λ (n : List ℕ). n ∷ drop (suc i) names) (sym is))

-- with one file more, of which the name is at the next place
pub read_next : {T P F K S L : Type 0} (o : Outside T P F K S L) (a b c : T) (folder : List ℕ) (all : List (List ℕ)) (i : ℕ) (name : List ℕ) (files more : List NamedFile) (f : NamedFile) → more ≡ files ++ f ∷ [] → i < length all → name ≡ get_or all i name → HasRead o folder (take i all) (map table_file_of files) a b → AddsSome o b c (ReadsTable o.disk folder name (Ok (table_file_of f)))
    → HasRead o folder (take (i + 1) all) (map table_file_of more) a c
read_next o a b c folder all i name files more f last lt is h q =
    subst (λ (ns : List (List ℕ)). HasRead o folder ns (map table_file_of more) a c) (sym (name_more all i name lt is))
    (subst (λ (fs : List File). HasRead o folder (take i all ++ name ∷ []) fs a c) (sym (ap (map table_file_of) last ∙ map-append table_file_of files (f ∷ []))) (read_more o a b c folder (take i all) name (map table_file_of files) (table_file_of f) h q))

-- ---- one file

pub is_read : {T P F K S L : Type 0} (o : Outside T P F K S L) (a b : T) (folder name path : List ℕ) (f : File) → path ≡ path_in folder f.name → f.name ≡ name → o.disk.holds path f.bytes → length f.bytes ≤ most_bytes → Adds o a b (FileRead path (Ok f.bytes) ∷ [])
    → AddsSome o a b (ReadsTable o.disk folder name (Ok f))
is_read o a b folder name path f at named holds short p = (
  FileRead path (Ok f.bytes) ∷ [],
  p,
  reads.IsRead f named (subst (λ (x : List ℕ). o.disk.holds x f.bytes) at holds, short) (ap (λ (x : List ℕ). FileRead x (Ok f.bytes) ∷ []) at) refl,
)

pub not_read : {T P F K S L : Type 0} (o : Outside T P F K S L) (a b : T) (folder name path : List ℕ) (fault : ReadFault) → path ≡ path_in folder name → (fault ≡ Unreadable → o.disk.fails (AtFile path)) → Adds o a b (FileRead path (Err fault) ∷ [])
    → AddsSome o a b (ReadsTable o.disk folder name (Err fault))
not_read o a b folder name path fault at cause p = (
  FileRead path (Err fault) ∷ [],
  p,
  reads.NotRead fault (λ (same : fault ≡ Unreadable). subst (λ (x : List ℕ). o.disk.fails (AtFile x)) at (cause same)) (ap (λ (x : List ℕ). FileRead x (Err fault) ∷ []) at) refl,
)

-- ---- the folder

pub reads_so : {T P F K S L : Type 0} (o : Outside T P F K S L) (a b c : T) (folder : List ℕ) (manifest : Manifest) (wanted : List (List ℕ)) (r : Result (List File) ReadFault) → AddsSome o a b (ListsTables o.disk folder manifest (Ok wanted)) → AddsSome o b c (ReadsTables o.disk folder wanted r)
    → AddsSome o a c (ReadsFolder o.disk folder manifest r)
reads_so o a b c folder manifest wanted r p q = (p.0 ++ q.0, adds_more o a b c p.0 q.0 p.1 q.1, FilesRead wanted p.0 q.0 p.2 q.2 refl)

-- what was read of the wanted names of a folder are files that a manifest may have
pub files_of_listing : (disk : DiskFacts) (folder : List ℕ) (manifest : Manifest) (wanted : List (List ℕ)) (listing : List Event) (files : List File) → names_of files ≡ wanted → ListsTables disk folder manifest (Ok wanted) listing → AreFiles files
files_of_listing disk folder manifest wanted listing files named (Listed names others note lists may are is same) =
    are_files (told_by manifest) names files (subst (AreWantedOf (told_by manifest) names) (sym (ok_is wanted others refl same) ∙ sym named) are)
files_of_listing disk folder manifest wanted listing files named (NotListed fault cause is same) = absurd (cc)
files_of_listing disk folder manifest wanted listing files named (ListedTwice names note lists may fault cause is same) = absurd (cc)

named_of_reading : (disk : DiskFacts) (folder : List ℕ) (wanted : List (List ℕ)) (reading : List Event) (files : List File) → ReadsTables disk folder wanted (Ok files) reading → names_of files ≡ wanted
named_of_reading disk folder wanted reading files (AllRead others are is same) = ap names_of (ok_is files others refl same) ∙ are.named
named_of_reading disk folder wanted reading files (OneUnread before name after last fault is bytes reads more same) = absurd (cc)
named_of_reading disk folder wanted reading files (NoRoomFor others after is bytes more same) = absurd (cc)

pub are_files_read : {T P F K S L : Type 0} (o : Outside T P F K S L) (a b c : T) (folder : List ℕ) (manifest : Manifest) (wanted : List (List ℕ)) (r : Result (Vec NamedFile Global) ReadFault) → AddsSome o a b (ListsTables o.disk folder manifest (Ok wanted)) → AddsSome o b c (ReadsTables o.disk folder wanted (taken r))
    → IfOk r (λ files. AreFiles (map table_file_of files.items))
are_files_read o a b c folder manifest wanted (Ok files) p q =
    files_of_listing o.disk folder manifest wanted p.0 (map table_file_of files.items) (named_of_reading o.disk folder wanted q.0 (map table_file_of files.items) q.2) p.2
are_files_read o a b c folder manifest wanted (Err e) p q = tt
