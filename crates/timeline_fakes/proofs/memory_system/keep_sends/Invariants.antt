use Rattle.std.proofs.Common.{take}
use Rattle.timeline.specs.Events.{Passes, sent_to_each}
use Rattle.timeline_fakes.specs.Memories.{events_in}
use Rattle.timeline_fakes.proofs.memory_system.keep_sends.Given as goal

abbrev pub invariant-loop-who : goal.invariant-loop-who
invariant-loop-who l = Passes (events_in l.fn.timeline) (events_in l.timeline) (sent_to_each l.sender (take l.who-index l.to) l.bytes)
