use Rattle.std.proofs.Common.{List, ℕ, ap, refl}
use Rattle.record_commands.specs.Record.{OfNone, OfRecord}
use Rattle.answer_parts.specs.Reply.{Reply}
use Rattle.move_msg.proofs.RecordLaws.{read_back}
use Rattle.record_commands.proofs.record.answer.Goals as goal

abbrev so : List ℕ → Reply
so text = record { text = text; status = 0 }

pub returns-in-Ok-text_of-clause-ok : goal.returns-in-Ok-text_of-clause-ok
returns-in-Ok-text_of-clause-ok c =
    OfRecord c.in-Ok.record (rw c.kept.ensures at c.in-Ok.ensures.ok) (ap so c.in-Ok-text_of.ensures)

pub returns-clause-ok : goal.returns-clause-ok
returns-clause-ok c =
    let first = rw c.kept.ensures at (c.in-Err.ensures.err c.in_default.not-OutOfMemory) in
    OfNone c.in-Err.fault first refl

pub returns-in-Ok-clause-memory : goal.returns-in-Ok-clause-memory
returns-in-Ok-clause-memory c = (read_back _ c.in-Ok.record (rw c.kept.ensures at c.in-Ok.ensures.ok)).layout
