-- `audit --name N --start FEN --tables DIR [--manifest FILE] [--delay N] FILE [FILE]`: whether kept files are records of a game
-- as an arbiter of it keeps them, and whether two of them agree; specs/Audits.antt has what is found (this project's own).
use Rattle.std.specs.Prelude.{◌≡◌, ℕ, List, Option, Ok, Err, option_map}
use Rattle.board_core.specs.declared.parts.Parts.{Parts}
use Rattle.fen_text.specs.Written.{fen_of}
use Rattle.judge_core.specs.Tables.{Tables}
use Rattle.move_msg.specs.declared.stamp.Stamp.{Stamp}
use Rattle.move_msg.specs.Files.{entries_of}
use Rattle.move_msg.specs.Manifests.{SpellsManifest}
use Rattle.move_msg.specs.Stamps.{stamp_of}
use Rattle.record_commands.specs.Audits.{IsAudited}
use Rattle.task_files.specs.Given.{Given}
use Rattle.answer_parts.specs.Looks.{gathered}
use Rattle.answer_parts.specs.Reply.{IsForText, Reply, refusal_reply}
use Rattle.command_line.specs.declared.commands.audit.Audit.{Audit}

-- the second file, where one is named
abbrev pub other_in : Audit → Given → Option (List ℕ)
other_in t given = option_map (λ s. given.other_kept) t.other

-- the refusal of the tables; or else what is found by the rules of the game with this start, whose stamp is by the manifest of the
-- tables' files
pub data IsAuditResult (t : Audit) (given : Given) (start : Parts) (r : Reply) : Type 0 where
  BadTables : (words : List ℕ) → gathered given ≡ Err words → r ≡ refusal_reply words → IsAuditResult t given start r
  Held : (tables : Tables) (manifest : List ℕ) (stamp : Stamp) → gathered given ≡ Ok tables → SpellsManifest manifest (entries_of given.files) → stamp ≡ stamp_of t.name (fen_of start) manifest t.delay → IsAudited (record { start = start; tables = tables; delay = t.delay }) stamp given.kept (other_in t given) r → IsAuditResult t given start r

abbrev pub IsReply : Audit → Given → Reply → Type 0
IsReply t given r = IsForText t.start.now (IsAuditResult t given) r
