use Rattle.table_folder.proofs.Needed.{refused_is_needed}
use Rattle.table_folder.proofs.laws.refused_is_needed.Goals as goal

pub returns : goal.returns
returns g c = refused_is_needed c.more_tables_answer_the_same.ensures c.what_is_missing_stays_missing.ensures _
