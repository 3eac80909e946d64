use Rattle.std.proofs.Common.{length}
use Rattle.table_file.proofs.forging.layout.+put_two_sided.Given as goal

abbrev pub decreases-put_two_sided : goal.decreases-put_two_sided
decreases-put_two_sided l = length l.parts.now
