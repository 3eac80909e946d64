-- What tables say of a position alone, as contracts see it.
use Rattle.std.proofs.Common.{◌≡◌, Option, Some, None, subst}
use Rattle.std.specs.Prelude.{IfNone}
use Rattle.system_io.specs.Disks.{DiskFacts}
use Rattle.board_core.specs.declared.parts.Parts.{Parts}
use Rattle.json_lines.specs.declared.told.JsonLine.{JsonLine}
use Rattle.table_folder.specs.Folders.{FolderOn}
use Rattle.http_answer.specs.Games.{AnswersAlone}

-- by a folder, as contracts see it
pub alone_so : {D : Type 0} (facts : D → DiskFacts) (inside now : FolderOn D) (p : Parts) (l : JsonLine) → inside ≡ now → AnswersAlone (facts inside.disk) inside.folder p l → AnswersAlone (facts now.disk) now.folder p l
alone_so {D} facts inside now p l same says = subst (λ (on : FolderOn D). AnswersAlone (facts on.disk) on.folder p l) same says

pub if_none : {T : Type 0} {A B : Type 0} (o : Option T) → IfNone o A → (A → B) → IfNone o B
if_none None a f = f a
if_none (Some x) a f = tt
