use Rattle.std.proofs.Common.{◌≡◌, ◌++◌, map}
use Rattle.game_store.specs.Listing.{as_listed, listed_games}
use Rattle.game_store.proofs.memory.Memory.list.Given as goal

abbrev pub invariant-loop-stamp : goal.invariant-loop-stamp
invariant-loop-stamp l = map as_listed l.all.items ++ listed_games l.stamp-iterator ≡ listed_games l.self
