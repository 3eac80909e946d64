use Rattle.std.proofs.Common.{◌≡◌, take}
use Rattle.system_io.specs.Records.{Records, with_all}
use Rattle.timeline.specs.Events.{bytes_found}
use Rattle.timeline_fakes.specs.Memories.{bytes_at}
use Rattle.timeline_fakes.proofs.memory_store.found_in.Given as goal

abbrev pub invariant-loop-entry : goal.invariant-loop-entry
invariant-loop-entry l = (records : Records) → bytes_found l.before ≡ bytes_at records l.stamp → bytes_found l.found ≡ bytes_at (with_all records (take l.entry-index l.entries)) l.stamp
