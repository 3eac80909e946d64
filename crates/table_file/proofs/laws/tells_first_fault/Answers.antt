use Rattle.table_file.proofs.MissingWhole.{tells_first}
use Rattle.table_file.proofs.laws.tells_first_fault.Goals as goal

pub returns : goal.returns
returns c = tells_first c.reads_what_is_spelled.ensures c.tables_are_numbered.ensures
