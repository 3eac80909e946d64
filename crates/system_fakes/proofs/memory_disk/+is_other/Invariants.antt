use Rattle.std.proofs.Common.{length}
use Rattle.system_fakes.proofs.memory_disk.+is_other.Given as goal

abbrev pub decreases-is_other : goal.decreases-is_other
decreases-is_other l = length l.paths.now
