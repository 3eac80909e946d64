use Rattle.std.proofs.Common.{length}
use Rattle.table_file.proofs.forging.codes.+code_by.Given as goal

abbrev pub decreases-code_by : goal.decreases-code_by
decreases-code_by l = length l.lowest.now
