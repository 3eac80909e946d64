use Rattle.std.proofs.Common.{refl}
use Rattle.answer_parts.proofs.tables.add_found.Goals as goal

pub returns-in-Err-clause-tables : goal.returns-in-Err-clause-tables
returns-in-Err-clause-tables c = rw c.in-Err.is refl
