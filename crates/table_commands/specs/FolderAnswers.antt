-- Answers by the tables of a folder that are read when a position asks for them (this project's own).
use Rattle.std.specs.Prelude.{◌≢◌, ◌++◌, ℕ, Bool, true, false, List, Option, Some, Err, codes}
use Rattle.answer_parts.specs.Lines.{refused_file}
use Rattle.board_core.specs.Position.{IsPosition}
use Rattle.board_core.specs.declared.parts.Parts.{Parts}
use Rattle.fen_text.specs.Fen.{SpellsPosition}
use Rattle.json_lines.specs.Objects.{error_json, json_text}
use Rattle.judge_core.specs.Tables.{Tables}
use Rattle.move_msg.specs.ToldManifests.{ToldManifest}
use Rattle.system_io.specs.Disks.{DiskFacts}
use Rattle.table_folder.specs.Faults.{file_fault_name}
use Rattle.table_folder.specs.Folders.{Folder, FolderOn, IsFolderAt}
use Rattle.table_folder.specs.declared.fault.FileRefusal.{FileRefusal}

-- the words that refuse the file of a table, in a line or as JSON
abbrev pub refused_table : FileRefusal → List ℕ
refused_table refusal = refused_file refusal.name.bytes (file_fault_name refusal.fault)

abbrev pub refused_table_in : Bool → FileRefusal → List ℕ
refused_table_in true refusal = json_text (error_json (refusal.name.bytes ++ codes " " ++ file_fault_name refusal.fault))
refused_table_in false refusal = refused_table refusal

-- a folder on a disk, and those of its tables that are open
pub record TablesOn (D : Type 0) : Type 0 where
  pub on : FolderOn D
  pub tables : Tables

-- no line of a manifest that is named is malformed
abbrev pub IsSound : Option ToldManifest → Type 0
IsSound told = (line : ℕ) → told ≢ Some (Err line)

-- the folder at a path, held to a manifest without fault where there is one
pub record IsOpenAt (disk : DiskFacts) (path : List ℕ) (manifest : Option ToldManifest) (folder : Folder) : Type 0 where
  pub sound : IsSound manifest
  pub at : IsFolderAt disk path manifest folder

-- the position that a line spells
abbrev pub IsSpelledBy : List ℕ → Parts → Type 0
IsSpelledBy text p = SpellsPosition text p × IsPosition p
