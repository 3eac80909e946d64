use Rattle.std.proofs.Common.{length}
use Rattle.table_file.proofs.forging.codes.+base.Given as goal

abbrev pub decreases-base : goal.decreases-base
decreases-base l = length l.lowest.now
