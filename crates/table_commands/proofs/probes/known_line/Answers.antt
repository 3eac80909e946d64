use Rattle.std.proofs.Common.{refl}
use Rattle.table_commands.specs.Probes.{OfNoText}
use Rattle.table_commands.proofs.probes.known_line.Goals as goal

pub returns-in-Err-clause-told : goal.returns-in-Err-clause-told
returns-in-Err-clause-told c = OfNoText c.in-Err.fault c.in-Err.ensures.err refl
