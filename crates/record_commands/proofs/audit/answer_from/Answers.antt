use Rattle.std.proofs.Common.{refl, sym}
use Rattle.answer_parts.specs.Lines.{refusal_words}
use Rattle.record_commands.specs.Audit.{BadTables}
use Rattle.record_commands.proofs.audit.answer_from.Goals as goal

pub returns-in-Err : goal.returns-in-Err
returns-in-Err c = BadTables (refusal_words c.in-Err.refusal) (sym (rw c.in-Err.is at c.in_ok-set.ensures.tables)) refl
