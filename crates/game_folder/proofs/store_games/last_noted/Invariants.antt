use Rattle.std.proofs.Common.{◌≡◌, take}
use Rattle.timeline.specs.Events.{bytes_found}
use Rattle.game_folder.specs.StoreGames.{last_noted}
use Rattle.game_folder.proofs.store_games.last_noted.Given as goal

abbrev pub invariant-loop-entry : goal.invariant-loop-entry
invariant-loop-entry l = bytes_found l.found ≡ last_noted (take l.entry-index l.noted) l.fn.stamp
