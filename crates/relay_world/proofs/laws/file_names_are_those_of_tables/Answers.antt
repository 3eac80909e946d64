use Rattle.relay_world.proofs.laws.file_names_are_those_of_tables.Goals as goal
use Rattle.relay_world.proofs.FileNames.{file_names_are_those_of_tables}

pub returns : goal.returns
returns c = file_names_are_those_of_tables c.tables_are_numbered.ensures
