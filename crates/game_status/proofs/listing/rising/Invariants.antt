use Rattle.std.proofs.Common.{◌≡◌, ◌++◌}
use Rattle.game_status.proofs.listing.rising.Given as goal

abbrev pub invariant-loop-stamp : goal.invariant-loop-stamp
invariant-loop-stamp l = l.all.items ++ l.stamp-iterator ≡ l.stamps.keys
