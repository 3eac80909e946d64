-- Laws of the outside in memory.
use Rattle.std.specs.Prelude.{◌≡◌}
use Rattle.system_io.specs.Outputs.{NotBoth}
use Rattle.timeline.specs.declared.stream.Stream.{Stream}
use Rattle.timeline_fakes.specs.Memories.{outlet_facts, outlet_of}
use Rattle.timeline_fakes.specs.declared.memory_timeline.MemoryTimeline.{MemoryTimeline}
use Rattle.timeline_fakes.specs.declared.memory_timeline.Outlet.{Outlet}
use Rattle.timeline_fakes.specs.declared.memory_timeline.Outlet.TheVariants.{Gone, Stuck}

not_both : (outlet : Outlet) → outlet ≡ Gone → outlet ≡ Stuck → ⊥
not_both outlet gone stuck = absurd cc

pub outlet_one : (t : MemoryTimeline) (to : Stream) → NotBoth (outlet_facts (outlet_of t to))
outlet_one t to gone stuck = not_both (outlet_of t to) gone stuck
