use Rattle.std.proofs.Common.{◌∙◌, ap, inl, Ok}
use Rattle.move_msg.specs.declared.record_bytes.Record.{Record}
use Rattle.move_msg.proofs.RecordLaws.{one_record, read_back}
use Rattle.move_msg.proofs.written_record.WrittenRecord.read.Goals as goal

pub returns-in-Ok-of-clause-only : goal.returns-in-Ok-of-clause-only
returns-in-Ok-of-clause-only c = λ r h. inl (ap (λ (x : Record). Ok x) (c.in-Ok-of.ensures ∙ one_record c.args.bytes.now c.in-Ok.record r c.in-Ok.ensures.ok h))

pub returns-in-Err-of-clause-memory : goal.returns-in-Err-of-clause-memory
returns-in-Err-of-clause-memory c = λ none. (read_back c.args.bytes.now c.in-Ok.record c.in-Ok.ensures.ok).layout
