-- `audit --games DIR [--other DIR] --tables DIR [--manifest FILE]`, one event after another (this project's own).
use Rattle.std.specs.Prelude.{◌≡◌, ◌++◌, ℕ, List, [], ◌∷◌, Option, Some, Ok, Err, option_map}
use Rattle.answer_parts.specs.Looks.{gathered}
use Rattle.answer_parts.specs.Printing.{Prints, printed}
use Rattle.command_line.specs.Commands.AuditGames.{named}
use Rattle.command_line.specs.declared.commands.audit_games.AuditGames.{AuditGames}
use Rattle.game_status.specs.GameAudits.{IsAuditOf, audit_told}
use Rattle.game_status.specs.declared.audit_lines.AuditLook.{AuditLook}
use Rattle.game_status.specs.declared.game_audit.AuditTables.{AuditTables}
use Rattle.game_status.specs.declared.status_lines.Look.{Look}
use Rattle.game_status.specs.declared.telling.GameTold.{GameTold}
use Rattle.judge_core.specs.Tables.{Tables}
use Rattle.line_teller.specs.ToldLines.{cut_words, refused_memory}
use Rattle.move_msg.specs.Files.{entries_of}
use Rattle.move_msg.specs.Manifests.{SpellsManifest}
use Rattle.system_io.specs.declared.reading.ReadFault.{ReadFault}
use Rattle.task_files.specs.Given.{Given}
use Rattle.task_files.specs.InputReads.{ReadsGiven}
use Rattle.timeline.specs.Events.{Event}
use Rattle.timeline.specs.Outsides.{Outside}
use Rattle.game_reports.specs.Folders.{ByFolders}
use Rattle.game_reports.specs.GameLines.{TellsGames}

-- what a line of the audit says by what is found of a game, by these tables with this manifest
abbrev pub IsAuditLine : List ℕ → Tables → List ℕ → Look → GameTold → Type 0
IsAuditLine manifest tables stamp l told = (audit : AuditLook) × IsAuditOf manifest tables stamp l audit × (told ≡ audit_told stamp audit)

-- the folders are opened, and then their games are audited
abbrev pub AuditsFolders : {T P F K S L : Type 0} → Outside T P F K S L → AuditGames → List ℕ → Tables → List Event → Option ℕ → Type 0
AuditsFolders o t manifest tables events status = ByFolders o t.games.now (option_map (λ s. s.now) t.other) (TellsGames o.disk (IsAuditLine manifest tables)) events status

-- so it is by these tables
abbrev pub AuditsWith : {T P F K S L : Type 0} → Outside T P F K S L → AuditGames → AuditTables → List Event → Option ℕ → Type 0
AuditsWith o t by = AuditsFolders o t by.manifest.now by.set.tables

-- the tables are refused; or else the audit is by their manifest; or memory for them was refused
pub data AuditsBy {T P F K S L : Type 0} (o : Outside T P F K S L) (t : AuditGames) (given : Given) (events : List Event) (status : Option ℕ) : Type 0 where
  BadTables : (words : List ℕ) → gathered given ≡ Err words → Prints (words ∷ []) 1 events status → AuditsBy o t given events status
  Audited : (tables : Tables) (manifest : List ℕ) → gathered given ≡ Ok tables → SpellsManifest manifest (entries_of given.files) → AuditsFolders o t manifest tables events status → AuditsBy o t given events status
  NoRoomForTables : Prints (refused_memory ∷ []) 1 events status → AuditsBy o t given events status

-- what the task names is read, each thing once, and then the games are audited by it; or why it can't be read
pub data AuditsGames {T P F K S L : Type 0} (o : Outside T P F K S L) (t : AuditGames) (events : List Event) (status : Option ℕ) : Type 0 where
  ByTables : (given : Given) (reading rest : List Event) → ReadsGiven o (named t) (Ok given) reading → AuditsBy o t given rest status → events ≡ reading ++ rest → AuditsGames o t events status
  TablesUnread : (fault : ReadFault) (reading : List Event) → ReadsGiven o (named t) (Err fault) reading → events ≡ reading ++ printed (cut_words fault ∷ []) → status ≡ Some 1 → AuditsGames o t events status
