-- Kept files held to the rules of a game: each is judged as an opening judges it (this project's own).
use Rattle.std.specs.Prelude.{◌≡◌, ◌≢◌, ◌<◌, ◌⊎◌, ◌==◌, ◌++◌, ℕ, Bool, true, false, List, length, take, Option, Some, None, IfNone, IfSome, cond, codes}
use Rattle.std.specs.Fmt.{decimal}
use Rattle.board_core.specs.declared.moves.Move.{Move}
use Rattle.board_core.specs.declared.parts.Parts.{Parts}
use Rattle.board_core.specs.declared.verdict.Verdict.{Verdict}
use Rattle.judge_core.specs.declared.game.GameOutcome.{GameOutcome}
use Rattle.judge_core.specs.Games.{IsFirst, IsIllegalAt, IsOutcome, Rules}
use Rattle.judge_core.specs.Tables.{Tables}
use Rattle.move_msg.specs.declared.record_bytes.Record.{Record as Records}
use Rattle.move_msg.specs.declared.record_bytes.RecordFault.{RecordFault}
use Rattle.move_msg.specs.declared.stamp.Stamp.{Stamp}
use Rattle.move_msg.specs.Records.{IsFirstRecordFault, SpellsRecord, record_fault_name}
use Rattle.arbiter_core.specs.declared.fault.OpenFault.TheVariants as opening
use Rattle.arbiter_core.specs.Opens.{IsBadKept, IsOfGame, IsResumed, at_end}
use Rattle.arbiter_core.specs.Recording.{Recorded, move_count}
use Rattle.arbiter_server.specs.ServedLines.{heard_words, verdict_or_none}
use Rattle.record_audit.specs.declared.auditing.Auditor.{Auditor}
use Rattle.record_audit.specs.declared.auditing.Audited.{Audited}
use Rattle.record_audit.specs.declared.auditing.Finding.{Finding}
use Rattle.record_audit.specs.declared.auditing.Finding.TheVariants as found

-- the rules to which records are held
abbrev pub rules_of : Auditor → Rules
rules_of a = record { start = a.start; tables = a.set.tables; delay = a.delay }

-- those of the game from this start by these tables of which the record is
abbrev pub rules_with : Parts → Tables → Records → Rules
rules_with start tables r = record { start = start; tables = tables; delay = r.delay }

-- ---- one file

-- the move at this place, counted from 0, isn't legal in its turn, or an earlier ply or the one before it has a verdict
abbrev pub StopsAt : Rules → List Move → ℕ → Type 0
StopsAt rules moves place = IsIllegalAt rules moves place ⊎ ((verdict : Verdict) × IsFirst rules moves place verdict × (place < length moves))

-- all moves are legal in turn, no ply before the last has a verdict, and the last has this one
abbrev pub EndsWithVerdict : Rules → List Move → Option Verdict → Type 0
EndsWithVerdict rules moves verdict = (outcome : GameOutcome) × IsOutcome rules moves outcome × (at_end outcome (length moves) ≡ Some verdict)

-- what is found: an arbiter of the game resumes from the bytes; or why it refuses them at its opening
abbrev pub IsFound : Rules → Stamp → List ℕ → Finding → Type 0
IsFound rules stamp bytes (found.Whole count verdict) =
    (kept : Recorded) × IsResumed rules stamp bytes kept × (count ≡ move_count kept) × (verdict ≡ kept.verdict)
IsFound rules stamp bytes (found.BadRecord fault) = IsBadKept rules stamp bytes opening.BadRecord × IsFirstRecordFault bytes fault
IsFound rules stamp bytes found.OtherStamp = IsBadKept rules stamp bytes opening.OtherStamp
IsFound rules stamp bytes (found.BadMoves place) =
    IsBadKept rules stamp bytes opening.BadRecord × ((r : Records) × SpellsRecord bytes r × IsOfGame rules stamp r × StopsAt rules r.moves place)
IsFound rules stamp bytes (found.BadVerdict verdict) =
    IsBadKept rules stamp bytes opening.BadRecord
    × ((r : Records) × SpellsRecord bytes r × IsOfGame rules stamp r × EndsWithVerdict rules r.moves verdict × (r.verdict ≢ verdict))

-- what is found of the bytes that spell a record
abbrev pub IsFoundOf : Rules → Records → Finding → Type 0
IsFoundOf rules kept finding = (bytes : List ℕ) → SpellsRecord bytes kept → IsFound rules kept.stamp bytes finding

abbrev pub is_whole : Finding → Bool
is_whole (found.Whole count verdict) = true
is_whole (found.BadRecord fault) = false
is_whole found.OtherStamp = false
is_whole (found.BadMoves place) = false
is_whole (found.BadVerdict verdict) = false

-- a record that is whole is told with its own number of moves and verdict
abbrev pub IsOfRecord : Records → Finding → Type 0
IsOfRecord r (found.Whole count verdict) = (count ≡ length r.moves) × (verdict ≡ r.verdict)
IsOfRecord r (found.BadRecord fault) = Unit {0}
IsOfRecord r found.OtherStamp = Unit {0}
IsOfRecord r (found.BadMoves place) = Unit {0}
IsOfRecord r (found.BadVerdict verdict) = Unit {0}

-- the refusal of bytes that are no record
abbrev pub refused_record : RecordFault → List ℕ
refused_record fault = codes "refused record " ++ record_fault_name fault

-- what is found of a kept file: how many moves its record has and the verdict, or why it is refused
abbrev pub finding_words : Finding → List ℕ
finding_words (found.Whole count verdict) = heard_words count verdict
finding_words (found.BadRecord fault) = refused_record fault
finding_words found.OtherStamp = codes "refused stamp"
finding_words (found.BadMoves place) = codes "refused moves " ++ decimal place
finding_words (found.BadVerdict verdict) = codes "refused verdict " ++ verdict_or_none verdict

-- ---- two files: whether both machines keep the same

-- the records are of one game: they have the same stamp, and the same delay
abbrev pub AreOfOneGame : Records → Records → Type 0
AreOfOneGame r s = (r.stamp ≡ s.stamp) × (r.delay ≡ s.delay)

-- the verdict that a record has at a ply
abbrev pub verdict_at : Records → ℕ → Option Verdict
verdict_at r ply = cond (ply == length r.moves) r.verdict None

-- the records are of one game, up to this ply they have the same moves, and at it the same verdict; so records of different games
-- part at ply 0, before any move
abbrev pub AreSameAt : Records → Records → ℕ → Type 0
AreSameAt r s ply = AreOfOneGame r s × (take ply r.moves ≡ take ply s.moves) × (verdict_at r ply ≡ verdict_at s ply)

-- the game, all moves and the verdict are the same; or this is the first ply at which they part
abbrev pub AreCompared : Records → Records → Option ℕ → Type 0
AreCompared r s None = AreOfOneGame r s × (r.moves ≡ s.moves) × (r.verdict ≡ s.verdict)
AreCompared r s (Some ply) = ((before : ℕ) → before < ply → AreSameAt r s before) × (AreSameAt r s ply → ⊥)

-- where both files spell records, these are compared; a file that spells none has nothing to agree with, and nothing is told
abbrev pub IsComparison : List ℕ → List ℕ → Option (Option ℕ) → Type 0
IsComparison one other (Some compared) = (r : Records) × (s : Records) × SpellsRecord one r × SpellsRecord other s × AreCompared r s compared
IsComparison one other None = ((r : Records) → SpellsRecord one r → ⊥) ⊎ ((s : Records) → SpellsRecord other s → ⊥)

abbrev pub agree : Option (Option ℕ) → Bool
agree (Some None) = true
agree (Some (Some ply)) = false
agree None = false

-- its record is that of the bytes, if they have one
abbrev pub IsAuditedAs : List ℕ → Audited → Type 0
IsAuditedAs bytes a = IfSome a.kept (SpellsRecord bytes) × IfNone a.kept ((r : Records) → SpellsRecord bytes r → ⊥)
