-- What is seen of files that are held to a manifest; cited by private functions alone.
use Rattle.std.specs.Prelude.{◌≡◌, List, Option, Some, None, find, map, if◌then◌else◌, is_none, ℕ}
use Rattle.std.specs.List.{list_all}
use Rattle.std.specs.Str.{bytes_eq}
use Rattle.move_msg.specs.Files.{File, entry_for}
use Rattle.move_msg.specs.Manifests.{Entry, SpellsManifest, entry_of}
use Rattle.move_msg.specs.TextLines.{text_of}
use Rattle.answer_commands.specs.declared.check.FileCheck.{FileCheck}
use Rattle.table_folder.specs.declared.fault.FileFault.{FileFault}
use Rattle.table_folder.specs.declared.fault.FileFault.TheVariants.{Changed, Missing}
use Rattle.answer_parts.specs.Lines.{look_words}
use Rattle.answer_parts.specs.Looks.{file_found, found_fault}
use Rattle.answer_parts.specs.Reply.{Reply, status_if}

-- the entry of a file, and why it is no table, if it isn't one
pub record Sight : Type 0 where
  pub entry : Entry
  pub fault : Option FileFault

abbrev pub sight_of : FileCheck → Sight
sight_of seen = record { entry = entry_of seen.entry; fault = seen.fault }

abbrev pub sight_at : File → Sight
sight_at f = record { entry = entry_for f; fault = found_fault (file_found f) }

abbrev pub IsSeenOf : FileCheck → File → Type 0
IsSeenOf seen f = sight_of seen ≡ sight_at f

-- by what was seen under the name of a manifest's line
abbrev pub fault_by : List ℕ → Option Sight → Option FileFault
fault_by digest None = Some Missing
fault_by digest (Some sight) = if bytes_eq sight.entry.digest digest then sight.fault else Some Changed

abbrev pub fault_seen : List Sight → Entry → Option FileFault
fault_seen sights e = fault_by e.digest (find (λ s. bytes_eq s.entry.name e.name) sights)

-- a line for each line of the manifest, in its order, and whether all files are there and as they should be
abbrev pub reply_seen : List Sight → List Entry → Reply
reply_seen sights es = record {
  text = text_of (map (λ e. look_words e.name (fault_seen sights e)) es);
  status = status_if (list_all (λ e. is_none (fault_seen sights e)) es);
}

-- the manifest with these entries
abbrev pub IsManifestOf : List Entry → Reply → Type 0
IsManifestOf es r = SpellsManifest r.text es × (r.status ≡ 0)
