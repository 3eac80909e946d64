use Rattle.table_folder.proofs.WholeThere.{whole_is_there}
use Rattle.table_folder.proofs.laws.whole_is_there.Goals as goal

pub returns : goal.returns
returns g c = whole_is_there _
