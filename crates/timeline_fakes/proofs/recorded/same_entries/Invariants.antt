use Rattle.std.proofs.Common.{◌≡◌, map, take}
use Rattle.timeline.specs.Events.{stamped}
use Rattle.timeline_fakes.proofs.recorded.same_entries.Given as goal

abbrev pub invariant-loop-entry : goal.invariant-loop-entry
invariant-loop-entry l = map stamped l.all.items ≡ map stamped (take l.entry-index l.entries)
