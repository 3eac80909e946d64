use Rattle.std.proofs.Common.{◌≤◌, ◌-◌, length, map, take}
use Rattle.move_msg.specs.Manifests.{IsAfter, entry_of}
use Rattle.relay_world.proofs.listing.place_of.Given as goal

abbrev pub invariant-loop-place : goal.invariant-loop-place
invariant-loop-place l = record {
  within : l.place ≤ length l.lines;
  after : IsAfter (take l.place (map entry_of l.lines)) (entry_of l.line);
}

abbrev pub decreases-loop-place : goal.decreases-loop-place
decreases-loop-place l = length l.lines - l.place
