use Rattle.table_file.proofs.StoredSides.{a_side}
use Rattle.table_file.proofs.laws.a_side_is_stored.Goals as goal

pub returns : goal.returns
returns c = a_side
