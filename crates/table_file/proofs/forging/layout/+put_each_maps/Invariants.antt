use Rattle.std.proofs.Common.{length}
use Rattle.table_file.proofs.forging.layout.+put_each_maps.Given as goal

abbrev pub decreases-put_each_maps : goal.decreases-put_each_maps
decreases-put_each_maps l = length l.parts.now
