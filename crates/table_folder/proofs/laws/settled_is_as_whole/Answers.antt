use Rattle.table_folder.proofs.Whole.{as_whole}
use Rattle.table_folder.proofs.laws.settled_is_as_whole.Goals as goal

pub returns : goal.returns
returns g c = as_whole c.more_tables_answer_the_same.ensures c.what_is_missing_stays_missing.ensures _
