use Rattle.table_file.proofs.NameLemmas.{names_of_two}
use Rattle.table_file.proofs.laws.names_differ.Goals as goal

pub returns : goal.returns
returns c = names_of_two c.tables_are_numbered.ensures
