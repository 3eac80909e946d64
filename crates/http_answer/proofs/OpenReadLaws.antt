-- What is read while tables of a folder are opened is files of tables.
use Rattle.std.proofs.Common.{◌≡◌, ◌∙◌, ◌++◌, ◌∷◌, [], ℕ, ◌<◌, List, Option, Some, None, arith, inl, inr, map, refl, subst, sym}
use Rattle.std.proofs.lemmas.List.Elements.{Contains-append_right}
use Rattle.std.specs.List.{Contains}
use Rattle.std.specs.Prelude.{IfErr, IfOk, Result, Ok, Err}
use Rattle.std.specs.declared.alloc.AllocError.{AllocError}
use Rattle.board_core.specs.declared.parts.Parts.{Parts}
use Rattle.judge_core.specs.Tables.{Tables}
use Rattle.move_msg.specs.Files.{File}
use Rattle.system_io.specs.Disks.{DiskFacts}
use Rattle.system_io.specs.declared.reading.ReadFault.TheVariants as read
use Rattle.table_file.specs.declared.kind.TableKind.{TableKind}
use Rattle.table_file.specs.Names.{file_name}
use Rattle.task_files.specs.TableReads.{table_read}
use Rattle.table_folder.specs.Folders.{Folder, FolderOn, Found}
use Rattle.table_folder.specs.Reads.{IsOpened, IsRead, LooksAt, NoRoomForTable, NotListed, NotRead, OpensTables, ReadsLast, refusal_of}
use Rattle.table_folder.specs.Settled.{IsRefusedAt, IsRefusedFor}
use Rattle.table_folder.specs.declared.fault.FileRefusal.{FileRefusal}
use Rattle.table_folder.specs.declared.files.SystemFiles.{SystemFiles}
use Rattle.timeline.proofs.EventLaws.{adds_both, adds_none, adds_so}
use Rattle.timeline.specs.Events.{Event}
use Rattle.timeline.specs.Outsides.{AddsSome, Outside}
use Rattle.http_answer.specs.Reads.{AreTableReads, IsTableRead, ReadsTableFiles}
use Rattle.http_answer.proofs.TableReadLaws.{is_read, joined, none_read, one_read, table_reads}

-- ---- the file that is refused is one of a table

abbrev NamesTable : FileRefusal → Type 0
NamesTable refusal = (kind : TableKind) × (key : ℕ) × (key < 145) × (refusal.name.bytes ≡ file_name kind key)

abbrev pub MayNameTable : Result (Option FileRefusal) AllocError → Type 0
MayNameTable (Ok None) = Unit {0}
MayNameTable (Ok (Some refusal)) = NamesTable refusal
MayNameTable (Err e) = Unit {0}

pub named_at : {A : Type 0} (r : Result (Result A FileRefusal) AllocError) (disk : DiskFacts) (folder : Folder) (p : Parts) → IfOk r (λ s. IfErr s (IsRefusedAt disk folder p)) → MayNameTable (refusal_of r)
named_at (Ok (Ok a)) disk folder p h = tt
named_at (Ok (Err refusal)) disk folder p h = (h.kind, h.key, h.known, h.name)
named_at (Err e) disk folder p h = tt

pub named_for : {A : Type 0} (r : Result (Result A FileRefusal) AllocError) (disk : DiskFacts) (folder : Folder) (IsNeeded : Tables → Parts → Type 0) → IfOk r (λ s. IfErr s (IsRefusedFor disk folder IsNeeded)) → MayNameTable (refusal_of r)
named_for (Ok (Ok a)) disk folder IsNeeded h = tt
named_for (Ok (Err refusal)) disk folder IsNeeded h = (h.refused.kind, h.refused.key, h.refused.known, h.refused.name)
named_for (Err e) disk folder IsNeeded h = tt

-- ---- events

files_read : (folder : Folder) (files : List File) → ((f : File) → Contains files f → IsTableRead folder (table_read folder.path f)) → AreTableReads folder (map (table_read folder.path) files)
files_read folder [] each = tt
files_read folder (f ∷ files) each = (each f (0, omega arith, refl), files_read folder files (λ other among. each other (Contains-append_right (f ∷ []) files other among)))

opened_read : (disk : DiskFacts) (folder : Folder) (old new : Tables) (f : File) → IsOpened disk folder old new f → IsTableRead folder (table_read folder.path f)
opened_read disk folder old new f h = is_read folder h.kind h.key h.known f.name (Ok f.bytes) h.name

look_reads : (disk : DiskFacts) (folder : Folder) (kind : TableKind) (key : ℕ) (name : List ℕ) (found : Result Found AllocError) (more : List Event) → key < 145 → name ≡ file_name kind key → LooksAt disk folder name found more → AreTableReads folder more
look_reads disk folder kind key name found more known named (NotListed lacks is none) = none_read folder more none
look_reads disk folder kind key name found more known named (NotRead has fails is one) = one_read folder kind key known name (Err read.Unreadable) more named one
look_reads disk folder kind key name found more known named (IsRead has f same at is one) = one_read folder kind key known f.name (Ok f.bytes) more (same ∙ named) one
look_reads disk folder kind key name found more known named (NoRoomForTable has r reads e is) = table_reads folder kind key known disk name r more named reads

last_reads : (disk : DiskFacts) (folder : Folder) (tables : Tables) (refused : Result (Option FileRefusal) AllocError) (last : List Event) → MayNameTable refused → ReadsLast disk folder tables refused last → AreTableReads folder last
last_reads disk folder tables (Ok None) last named h = none_read folder last h
last_reads disk folder tables (Ok (Some refusal)) last (kind, key, known, is) h = look_reads disk folder kind key _ _ last known is h
last_reads disk folder tables (Err e) last named (inl none) = none_read folder last none
last_reads disk folder tables (Err e) last named (inr h) = look_reads disk folder h.kind h.key _ _ last h.known refl h.looks

opening_reads : (disk : DiskFacts) (folder : Folder) (old new : Tables) (refused : Result (Option FileRefusal) AllocError) (more : List Event) → MayNameTable refused → OpensTables disk folder old new refused more → AreTableReads folder more
opening_reads disk folder old new refused more named h =
    subst (AreTableReads folder) (sym h.made)
    (joined folder (map (table_read folder.path) h.files) h.last (files_read folder h.files (λ f among. opened_read disk folder old new f (h.opened.each f among))) (last_reads disk folder new refused h.last named h.ends))

-- ---- by a folder inside, as contracts see it

module _ {G T P F K S L : Type 0} (outside : G → Outside T P F K S L) where
  abbrev At : FolderOn (SystemFiles G) → Outside T P F K S L
  At on = outside on.disk.system.now

  pub opens_reads : (inside now : FolderOn (SystemFiles G)) (a b : T) (old new : Tables) (refused : Result (Option FileRefusal) AllocError) → inside ≡ now → MayNameTable refused
      → AddsSome (At inside) a b (OpensTables (At inside).disk inside.folder old new refused) → ReadsTableFiles outside now a b
  opens_reads inside now a b old new refused same named p =
      subst (λ (on : FolderOn (SystemFiles G)). ReadsTableFiles outside on a b) same
      (adds_so (At inside) a b (OpensTables (At inside).disk inside.folder old new refused) (AreTableReads inside.folder) (λ events h. opening_reads (At inside).disk inside.folder old new refused events named h) p)

  -- by the folder of the start, which is still the same
  pub reads_at : (now first : FolderOn (SystemFiles G)) (a b : T) → now ≡ first → ReadsTableFiles outside now a b → ReadsTableFiles outside first a b
  reads_at now first a b same p = subst (λ (on : FolderOn (SystemFiles G)). ReadsTableFiles outside on a b) same p

  -- and then more
  pub reads_then : (now first : FolderOn (SystemFiles G)) (a b c : T) → now ≡ first → ReadsTableFiles outside first a b → ReadsTableFiles outside now b c → ReadsTableFiles outside first a c
  reads_then now first a b c same p q =
      adds_both (At first) a b c (AreTableReads first.folder) (AreTableReads first.folder) (AreTableReads first.folder) (joined first.folder) p (reads_at now first b c same q)

  -- nothing was read
  pub no_reads : (x : G) (folder : Folder) (a : T) → AddsSome (outside x) a a (AreTableReads folder)
  no_reads x folder a = ([], adds_none (outside x) a, tt)
