use Rattle.table_folder.proofs.Whole.{whole_is_one}
use Rattle.table_folder.proofs.laws.whole_is_one.Goals as goal

pub returns : goal.returns
returns g c = whole_is_one _
