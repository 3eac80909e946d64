-- `record FILE` and `audit`: kept records (this project's own).
use Rattle.answer_commands.specs.Replies.{Asking}
use Rattle.answer_parts.specs.Reply.{IsText}
use Rattle.command_line.specs.Commands.Audit as audits
use Rattle.command_line.specs.Commands.Record as records
use Rattle.command_line.specs.declared.commands.audit.Audit.{Audit}
use Rattle.command_line.specs.declared.commands.record.ShowRecord.{ShowRecord}
use Rattle.record_commands.specs.Audit as audit
use Rattle.record_commands.specs.Record as record_of

-- what a kept file says; what is laid out as a record takes memory
abbrev pub record_asking : ShowRecord → Asking
record_asking t = record { named = records.named t; IsReply = λ given. record_of.IsReply given.kept; TakesMemory = λ given. record_of.RecordTakesMemory given.kept }

-- whether kept files are records of a game, and whether they agree; a start that is a position takes memory
abbrev pub audit_asking : Audit → Asking
audit_asking t = record { named = audits.named t; IsReply = audit.IsReply t; TakesMemory = λ given. IsText t.start.now }
