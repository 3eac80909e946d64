use Rattle.std.proofs.Common.{length}
use Rattle.system_fakes.proofs.memory_disk.+found.Given as goal

abbrev pub decreases-found : goal.decreases-found
decreases-found g l = length l.all.now
