use Rattle.std.proofs.Common.{refl}
use Rattle.table_file.proofs.forging.values.left.Goals as goal

pub returns : goal.returns
returns c = refl
