use Rattle.std.proofs.Common.{refl}
use Rattle.std.proofs.lemmas.Result.{IfOk-weaker}
use Rattle.answer_parts.specs.Reply.{ForNone, ForPosition}
use Rattle.answer_parts.proofs.TextLaws.{anyhow}
use Rattle.table_commands.proofs.root.answer_line.Goals as goal

pub returns-in-Err-clause-told : goal.returns-in-Err-clause-told
returns-in-Err-clause-told c = ForNone c.in-Err.fault c.in-Err.ensures.err refl

pub returns-in-Ok-clause-told : goal.returns-in-Ok-clause-told
returns-in-Ok-clause-told c = IfOk-weaker c.told_by.result _ _ (λ a h. ForPosition c.in-Ok.position c.in-Ok.ensures.ok c.in-Ok.ensures.position h) c.told_by.ensures.told

pub returns-in-Ok-clause-memory : goal.returns-in-Ok-clause-memory
returns-in-Ok-clause-memory c = anyhow c.told_by.result (c.in-Ok.position, c.in-Ok.ensures.ok, c.in-Ok.ensures.position)
