use Rattle.place_index.proofs.LookUp.Covered.{few_men_have_tables}
use Rattle.place_index.proofs.laws.few_men_have_tables.Goals as goal

pub returns : goal.returns
returns c = few_men_have_tables c.tables_are_numbered.ensures
