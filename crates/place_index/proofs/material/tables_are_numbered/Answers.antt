use Rattle.place_index.proofs.Materials.TableLaw.{numbered_is_table, table_is_numbered, names_apart}
use Rattle.place_index.proofs.material.tables_are_numbered.Goals as goal

pub returns : goal.returns
returns c = (numbered_is_table, table_is_numbered, names_apart)
