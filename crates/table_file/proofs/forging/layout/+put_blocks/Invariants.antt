use Rattle.std.proofs.Common.{length}
use Rattle.table_file.proofs.forging.layout.+put_blocks.Given as goal

abbrev pub decreases-put_blocks : goal.decreases-put_blocks
decreases-put_blocks l = length l.parts.now
