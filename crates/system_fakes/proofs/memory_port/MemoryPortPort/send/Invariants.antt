use Rattle.std.proofs.Common.{◌≡◌}
use Rattle.system_io.specs.Histories.{Passes}
use Rattle.system_fakes.specs.MemoryPorts.{passed_at}
use Rattle.system_io.specs.Ports.{to_each}
use Rattle.system_fakes.proofs.memory_port.MemoryPortPort.send.Given as goal

-- so far it is given out for the addresses before this one
abbrev pub invariant-loop-to : goal.invariant-loop-to
invariant-loop-to l = Passes (passed_at l.fn.self) (passed_at l.self) (to_each l.to l.bytes) × (l.self.addresses ≡ l.fn.self.addresses) × (l.self.failures ≡ l.fn.self.failures)
