use Rattle.std.proofs.Common.{length}
use Rattle.table_file.proofs.forging.layout.+is_falling.Given as goal

abbrev pub decreases-is_falling : goal.decreases-is_falling
decreases-is_falling l = length l.lowest.now
