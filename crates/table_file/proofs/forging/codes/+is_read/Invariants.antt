use Rattle.std.proofs.Common.{length}
use Rattle.table_file.proofs.forging.codes.+is_read.Given as goal

abbrev pub decreases-is_read : goal.decreases-is_read
decreases-is_read l = length l.lowest.now
