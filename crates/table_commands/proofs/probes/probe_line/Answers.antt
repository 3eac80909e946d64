use Rattle.std.proofs.Common.{refl}
use Rattle.answer_parts.proofs.TextLaws.{anyhow}
use Rattle.table_commands.specs.Probes.{OfNone}
use Rattle.table_commands.proofs.probes.probe_line.Goals as goal

pub returns-in-Ok-clause-memory : goal.returns-in-Ok-clause-memory
returns-in-Ok-clause-memory c = anyhow c.columns.result (c.in-Ok.position, c.in-Ok.ensures.ok, c.in-Ok.ensures.position)

pub returns-in-Err-clause-told : goal.returns-in-Err-clause-told
returns-in-Err-clause-told c = OfNone c.in-Err.fault c.in-Err.ensures.err refl
