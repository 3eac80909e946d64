use Rattle.std.proofs.Common.{◌≡◌, map, take}
use Rattle.game_store.specs.Listing.{as_listed, listed_entry}
use Rattle.game_store.proofs.memory.entries_of.Given as goal

abbrev pub invariant-loop-game : goal.invariant-loop-game
invariant-loop-game l = map listed_entry l.entries.items ≡ map as_listed (take l.game-index l.games)
