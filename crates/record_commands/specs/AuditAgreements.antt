-- What `audit --games` tells is what `audit` tells of the record (this project's own).
use Rattle.std.specs.Prelude.{◌≡◌, ◌⊎◌, ◌++◌, not, ℕ, List, Some, None, codes}
use Rattle.hex.specs.Hex.{encode_lower}
use Rattle.judge_core.specs.Tables.{Tables}
use Rattle.move_msg.specs.declared.record_bytes.Record.{Record as Records}
use Rattle.move_msg.specs.Records.{SpellsRecord}
use Rattle.record_audit.specs.declared.auditing.Finding.{Finding}
use Rattle.record_audit.specs.Findings.{finding_words, is_whole}
use Rattle.game_status.specs.declared.audit_lines.AuditLook.{AuditLook}
use Rattle.game_status.specs.declared.audit_lines.AuditLook.TheVariants.{Wrong}
use Rattle.game_status.specs.declared.audit_lines.Unsound.TheVariants as unsound
use Rattle.game_status.specs.declared.side.Side.{Side}
use Rattle.game_status.specs.declared.status_lines.Look.TheVariants as look
use Rattle.game_status.specs.GameAudits.{IsAuditOf, audit_told}
use Rattle.game_status.specs.Tellings.{is_fault}
use Rattle.record_commands.specs.Audits.{IsAudited, audited_one}

-- Of a game whose record is spelled by these bytes and has the game's delay, in one folder: its file is that of another game by these
-- tables; or what is told, behind the stamp, is the line that `audit` tells of the bytes by the rules of the game, and it is counted as
-- a fault where that line's status is 1
abbrev pub TellsAsAudit : Type 0
TellsAsAudit =
    (manifest : List ℕ) (tables : Tables) (stamp : List ℕ) (side : Side) (told : AuditLook) (bytes : List ℕ) (r : Records)
    → side.kept ≡ Some r
    → SpellsRecord bytes r
    → r.delay ≡ side.game.delay
    → IsAuditOf manifest tables stamp (look.One side) told
    → (told ≡ Wrong unsound.OtherGame)
    ⊎ ((finding : Finding)
    × IsAudited (record { start = side.game.start; tables = tables; delay = side.game.delay }) r.stamp bytes None (audited_one finding)
    × ((audit_told stamp told).words ≡ encode_lower stamp ++ codes " " ++ finding_words finding)
    × (is_fault (audit_told stamp told).mark ≡ not (is_whole finding)))
