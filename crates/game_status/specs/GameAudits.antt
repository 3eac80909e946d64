-- Games of a folder, or of two, that are audited by one set of tables (this project's own).
use Rattle.std.specs.Prelude.{◌≡◌, ◌≤◌, ◌++◌, ℕ, false, List, [], Option, Some, None, IfSome, length, codes}
use Rattle.hex.specs.Hex.{encode_lower}
use Rattle.board_core.specs.Delays.{most_delay}
use Rattle.board_core.specs.declared.parts.Parts.{Parts}
use Rattle.judge_core.specs.Tables.{Tables}
use Rattle.move_msg.specs.declared.record_bytes.Record.{Record as Records}
use Rattle.move_msg.specs.Records.{SpellsRecord}
use Rattle.arbiter_server.specs.Games.{IsGameOf}
use Rattle.record_audit.specs.declared.auditing.Finding.{Finding}
use Rattle.record_audit.specs.declared.auditing.Finding.TheVariants as found
use Rattle.record_audit.specs.Findings.{IsFound, finding_words, is_whole, rules_with}
use Rattle.game_status.specs.declared.audit_lines.AuditLook.{AuditLook}
use Rattle.game_status.specs.declared.audit_lines.AuditLook.TheVariants.{Sound, Wrong}
use Rattle.game_status.specs.declared.audit_lines.Unsound.{Unsound}
use Rattle.game_status.specs.declared.audit_lines.Unsound.TheVariants as unsound
use Rattle.game_status.specs.declared.comparing.Compared.{Compared}
use Rattle.game_status.specs.declared.comparing.Compared.TheVariants.{Agree, Behind, Unopened, Differ}
use Rattle.game_status.specs.declared.entry.EntryFault.TheVariants.{OtherGame}
use Rattle.game_status.specs.declared.side.Side.{Side}
use Rattle.game_status.specs.declared.status_lines.Look.{Look}
use Rattle.game_status.specs.declared.status_lines.Look.TheVariants as look
use Rattle.game_status.specs.declared.telling.Mark.{Mark}
use Rattle.game_status.specs.declared.telling.Mark.TheVariants as mark
use Rattle.game_status.specs.Comparisons.{compared_words, mark_of}
use Rattle.game_status.specs.Statuses.{fault_line, other_fault_line}
use Rattle.game_status.specs.declared.telling.GameTold.{GameTold}

-- ---- one record

-- nothing is kept; or an arbiter of the game from this start resumes from whatever spells the record, with its moves and its verdict
abbrev pub IsWholeRecord : Parts → Tables → Option Records → Type 0
IsWholeRecord start tables None = Unit {0}
IsWholeRecord start tables (Some r) = (bytes : List ℕ) → SpellsRecord bytes r → IsFound (rules_with start tables r) r.stamp bytes (found.Whole (length r.moves) r.verdict)

-- none does, and this is why
abbrev pub IsUntrue : Parts → Tables → Option Records → Finding → Type 0
IsUntrue start tables None finding = ⊥
IsUntrue start tables (Some r) finding = (is_whole finding ≡ false) × ((bytes : List ℕ) → SpellsRecord bytes r → IsFound (rules_with start tables r) r.stamp bytes finding)

-- ---- one game

-- by tables with this manifest the game's file is that of the stamp, and the record is whole
abbrev pub IsOwnFile : List ℕ → List ℕ → Side → Type 0
IsOwnFile manifest stamp side = IsGameOf manifest stamp side.game.name.items side.game.start side.game.delay

abbrev pub IsSoundSide : List ℕ → Tables → List ℕ → Side → Type 0
IsSoundSide manifest tables stamp side = IsOwnFile manifest stamp side × IsWholeRecord side.game.start tables side.kept

-- and so is another record of the game
abbrev pub IsSoundPair : List ℕ → Tables → List ℕ → Side → Option Records → Type 0
IsSoundPair manifest tables stamp side other = IsSoundSide manifest tables stamp side × IsWholeRecord side.game.start tables other

-- what is wrong with it: the file is another game's, or else the record
abbrev pub IsUnsoundSide : List ℕ → Tables → List ℕ → Side → Unsound → Type 0
IsUnsoundSide manifest tables stamp side unsound.OtherGame = IsOwnFile manifest stamp side → ⊥
IsUnsoundSide manifest tables stamp side (unsound.Record finding) = IsOwnFile manifest stamp side × IsUntrue side.game.start tables side.kept finding
IsUnsoundSide manifest tables stamp side (unsound.OtherRecord finding) = ⊥

-- the same where a second folder keeps this of it
abbrev pub IsUnsoundPair : List ℕ → Tables → List ℕ → Side → Option Records → Unsound → Type 0
IsUnsoundPair manifest tables stamp side other unsound.OtherGame = IsUnsoundSide manifest tables stamp side unsound.OtherGame
IsUnsoundPair manifest tables stamp side other (unsound.Record finding) = IsUnsoundSide manifest tables stamp side (unsound.Record finding)
IsUnsoundPair manifest tables stamp side other (unsound.OtherRecord finding) = IsSoundSide manifest tables stamp side × IsUntrue side.game.start tables other finding

-- nothing is wrong beyond what the files have
abbrev pub IsSoundLook : List ℕ → Tables → List ℕ → Look → Type 0
IsSoundLook manifest tables stamp (look.One side) = IsSoundSide manifest tables stamp side
IsSoundLook manifest tables stamp (look.Both side other compared) = IsSoundPair manifest tables stamp side other.kept
IsSoundLook manifest tables stamp (look.AtFault fault) = Unit {0}
IsSoundLook manifest tables stamp (look.OtherAtFault fault) = Unit {0}

abbrev pub IsUnsoundLook : List ℕ → Tables → List ℕ → Look → Unsound → Type 0
IsUnsoundLook manifest tables stamp (look.One side) why = IsUnsoundSide manifest tables stamp side why
IsUnsoundLook manifest tables stamp (look.Both side other compared) why = IsUnsoundPair manifest tables stamp side other.kept why
IsUnsoundLook manifest tables stamp (look.AtFault fault) why = ⊥
IsUnsoundLook manifest tables stamp (look.OtherAtFault fault) why = ⊥

-- what an audit tells where the files have this
abbrev pub IsAuditOf : List ℕ → Tables → List ℕ → Look → AuditLook → Type 0
IsAuditOf manifest tables stamp l (Sound same) = (same ≡ l) × IsSoundLook manifest tables stamp l
IsAuditOf manifest tables stamp l (Wrong why) = IsUnsoundLook manifest tables stamp l why

-- ---- the lines

-- what `audit` finds of a whole record; or that nothing is kept
abbrev pub kept_finding : Option Records → List ℕ
kept_finding None = codes "- none"
kept_finding (Some r) = finding_words (found.Whole (length r.moves) r.verdict)

abbrev pub parted_words : Option Records → Compared → List ℕ
parted_words other compared = codes " " ++ kept_finding other ++ codes " " ++ compared_words compared

-- what follows of a second folder: that its record agrees, or else what is found of it and what comes of comparing it
abbrev pub pair_words : Option Records → Compared → List ℕ
pair_words None Agree = []
pair_words (Some r) Agree = codes " agree"
pair_words other (Behind more) = parted_words other (Behind more)
pair_words other Unopened = parted_words other Unopened
pair_words other (Differ ply) = parted_words other (Differ ply)

abbrev pub sound_line : List ℕ → Look → List ℕ
sound_line stamp (look.One side) = encode_lower stamp ++ codes " " ++ kept_finding side.kept
sound_line stamp (look.Both side other compared) = encode_lower stamp ++ codes " " ++ kept_finding side.kept ++ pair_words other.kept compared
sound_line stamp (look.AtFault fault) = fault_line stamp fault
sound_line stamp (look.OtherAtFault fault) = other_fault_line stamp fault

abbrev pub unsound_line : List ℕ → Unsound → List ℕ
unsound_line stamp unsound.OtherGame = fault_line stamp OtherGame
unsound_line stamp (unsound.Record finding) = encode_lower stamp ++ codes " " ++ finding_words finding
unsound_line stamp (unsound.OtherRecord finding) = encode_lower stamp ++ codes " " ++ codes "other " ++ finding_words finding

-- ---- how the game is counted

-- of two records as ruled where they agree on a verdict, and as differing where they don't agree
abbrev pub pair_mark : Option Records → Compared → Mark
pair_mark kept Agree = mark_of kept
pair_mark kept (Behind more) = mark.Differs
pair_mark kept Unopened = mark.Differs
pair_mark kept (Differ ply) = mark.Differs

abbrev pub mark_of_look : Look → Mark
mark_of_look (look.One side) = mark_of side.kept
mark_of_look (look.Both side other compared) = pair_mark side.kept compared
mark_of_look (look.AtFault fault) = mark.AtFault
mark_of_look (look.OtherAtFault fault) = mark.AtFault

abbrev pub audit_told : List ℕ → AuditLook → GameTold
audit_told stamp (Sound l) = record { words = sound_line stamp l; mark = mark_of_look l }
audit_told stamp (Wrong why) = record { words = unsound_line stamp why; mark = mark.AtFault }

-- ---- what the files have, where a record is judged

-- the delay of a record is in its range
abbrev pub AreFewDelays : Look → Type 0
AreFewDelays (look.One side) = IfSome side.kept (λ r. r.delay ≤ most_delay)
AreFewDelays (look.Both side other compared) = IfSome side.kept (λ r. r.delay ≤ most_delay) × IfSome other.kept (λ r. r.delay ≤ most_delay)
AreFewDelays (look.AtFault fault) = Unit {0}
AreFewDelays (look.OtherAtFault fault) = Unit {0}
