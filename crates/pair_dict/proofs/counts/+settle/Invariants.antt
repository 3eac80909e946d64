use Rattle.std.proofs.Common.{◌+◌, ◌*◌}
use Rattle.pair_dict.proofs.counts.+settle.Given as goal

abbrev pub decreases-settle : goal.decreases-settle
decreases-settle l = 2 * l.most + 1

abbrev pub decreases-count : goal.decreases-count
decreases-count l = 2 * l.most
