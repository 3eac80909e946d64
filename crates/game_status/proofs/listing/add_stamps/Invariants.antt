use Rattle.std.proofs.Common.{map, take, string_bytes}
use Rattle.game_status.specs.Listings.{AddsStamps}
use Rattle.game_status.proofs.listing.add_stamps.Given as goal

abbrev pub invariant-loop-name : goal.invariant-loop-name
invariant-loop-name l = AddsStamps (map string_bytes (take l.name-index l.names)) l.ending l.initial.stamps.keys l.stamps.keys
