use Rattle.std.proofs.Common.{◌≡◌, take}
use Rattle.system_io.specs.Records.{records_of}
use Rattle.timeline.specs.Events.{bytes_found}
use Rattle.timeline_fakes.specs.Memories.{bytes_at}
use Rattle.timeline_fakes.proofs.StoreLaws.{all_in}
use Rattle.timeline_fakes.proofs.memory_store.MemoryStore.find.Given as goal

abbrev pub invariant-loop-batch : goal.invariant-loop-batch
invariant-loop-batch l = bytes_found l.found ≡ bytes_at (records_of (all_in (take l.batch-index l.self.batches.items))) l.stamp
