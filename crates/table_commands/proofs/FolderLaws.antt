-- A manifest that is named, and a folder at one position.
use Rattle.std.proofs.Common.{◌≡◌, ℕ, Option, Some, None, Ok, Err, refl, subst, sym}
use Rattle.board_core.specs.declared.parts.Parts.{Parts}
use Rattle.judge_core.specs.Tables.{Tables}
use Rattle.move_msg.specs.ToldBy.{told_by}
use Rattle.move_msg.specs.ToldManifests.{ToldManifest}
use Rattle.move_msg.specs.declared.told.Manifest.{Manifest}
use Rattle.move_msg.specs.declared.told.Manifest.TheVariants.{BadLine, Lines, Unnamed}
use Rattle.table_folder.specs.Folders.{Folder}
use Rattle.table_folder.specs.Settled.{AreSettled, IsAlone, IsSettled}
use Rattle.table_commands.specs.FolderAnswers.{IsSound}

-- ---- a manifest

-- it isn't the number of a malformed line
abbrev IsFine : Option ToldManifest → Type 0
IsFine None = Unit {0}
IsFine (Some (Ok entries)) = Unit {0}
IsFine (Some (Err line)) = ⊥

is_fine : (m : Manifest) → ((line : ℕ) → m ≡ BadLine line → ⊥) → IsFine (told_by m)
is_fine Unnamed _ = tt
is_fine (Lines lines) _ = tt
is_fine (BadLine line) not = not line refl

pub is_sound : (m : Manifest) → ((line : ℕ) → m ≡ BadLine line → ⊥) → IsSound (told_by m)
is_sound m not line is = subst IsFine is (is_fine m not)

-- what is settled at a position is settled at all that it alone needs
pub alone : (folder : Folder) (tables : Tables) (p : Parts) → IsSettled folder tables p → AreSettled folder tables (IsAlone p)
alone folder tables p settled = λ q same. subst (IsSettled folder tables) (sym same) settled
