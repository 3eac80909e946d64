use Rattle.std.proofs.Common.{length}
use Rattle.table_file.proofs.forging.layout.+put_one_sided.Given as goal

abbrev pub decreases-put_one_sided : goal.decreases-put_one_sided
decreases-put_one_sided l = length l.parts.now
