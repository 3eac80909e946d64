-- What is read of a folder of tables is files of tables.
use Rattle.std.proofs.Common.{◌≡◌, ◌∙◌, ◌++◌, ◌∷◌, [], ℕ, ◌<◌, List, ap, subst, sym}
use Rattle.std.specs.Prelude.{Result, Ok, Err}
use Rattle.move_msg.specs.Files.{File}
use Rattle.system_io.specs.Disks.{DiskFacts}
use Rattle.system_io.specs.declared.reading.ReadFault.{ReadFault}
use Rattle.table_file.specs.declared.kind.TableKind.{TableKind}
use Rattle.table_file.specs.Names.{file_name}
use Rattle.table_folder.specs.Folders.{Folder}
use Rattle.task_files.specs.Outside.{path_in}
use Rattle.task_files.specs.TableReads.{IsRead, NoPath, NotRead, ReadsTable}
use Rattle.timeline.specs.Events.{Event, FileRead}
use Rattle.http_answer.specs.Reads.{AreTableReads, IsTableRead}

pub joined : (folder : Folder) (xs ys : List Event) → AreTableReads folder xs → AreTableReads folder ys → AreTableReads folder (xs ++ ys)
joined folder [] ys p q = q
joined folder (x ∷ xs) ys (one, rest) q = (one, joined folder xs ys rest q)

pub none_read : (folder : Folder) (events : List Event) → events ≡ [] → AreTableReads folder events
none_read folder events none = subst (AreTableReads folder) (sym none) tt

module _ (folder : Folder) (kind : TableKind) (key : ℕ) (known : key < 145) where
  pub is_read : (name : List ℕ) (got : Result (List ℕ) ReadFault) → name ≡ file_name kind key → IsTableRead folder (FileRead (path_in folder.path name) got)
  is_read name got named = (kind, key, known, got, ap (λ (n : List ℕ). FileRead (path_in folder.path n) got) named)

  pub one_read : (name : List ℕ) (got : Result (List ℕ) ReadFault) (events : List Event) → name ≡ file_name kind key → events ≡ FileRead (path_in folder.path name) got ∷ [] → AreTableReads folder events
  one_read name got events named is = subst (AreTableReads folder) (sym is) (is_read name got named, tt)

  pub table_reads : (disk : DiskFacts) (name : List ℕ) (result : Result File ReadFault) (events : List Event) → name ≡ file_name kind key → ReadsTable disk folder.path name result events → AreTableReads folder events
  table_reads disk name result events at (IsRead f named there is same) = one_read f.name (Ok f.bytes) events (named ∙ at) is
  table_reads disk name result events at (NotRead fault cause is same) = one_read name (Err fault) events at is
  table_reads disk name result events at (NoPath is same) = none_read folder events is
