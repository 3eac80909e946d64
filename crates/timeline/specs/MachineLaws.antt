-- What has gone out of the system's output or errors isn't stuck.
use Rattle.system_io.specs.Outputs.{NotBoth, OutputFacts}
use Rattle.timeline.specs.Machines.{output_of}
use Rattle.timeline.specs.declared.machine.MachineTimeline.{MachineTimeline}
use Rattle.timeline.specs.declared.stream.Stream.{Stream}
use Rattle.timeline.specs.declared.stream.Stream.TheVariants as stream

pub outputs_one : {W E : Type 0} (out : W → OutputFacts) (errors : E → OutputFacts) → ((w : W) → NotBoth (out w)) → ((e : E) → NotBoth (errors e)) → (t : MachineTimeline W E) (to : Stream) → NotBoth (output_of out errors t to)
outputs_one out errors one other t stream.Output = one t.out
outputs_one out errors one other t stream.Errors = other t.errors
