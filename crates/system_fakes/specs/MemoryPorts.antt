-- The facts of a port in memory (this project's own).
use Rattle.std.specs.Prelude.{ℕ, List, Option, Some, None, cond, map}
use Rattle.std.specs.Duration.{as_nanos}
use Rattle.system_fakes.specs.declared.memory_port.MemoryPort.{MemoryPort}
use Rattle.system_fakes.specs.declared.memory_port.Passage.{Passage}
use Rattle.system_fakes.specs.declared.memory_port.Passage.TheVariants as passage
use Rattle.system_fakes.specs.declared.memory_port.Turn.{Turn}
use Rattle.system_io.specs.Ports.{PortFacts, Passing, Came, Quiet, Missed, Handed}

abbrev pub passing : Passage → Passing
passing (passage.Came bytes) = Came bytes.items
passing (passage.Quiet wait) = Quiet (as_nanos wait)
passing passage.Missed = Missed
passing (passage.Handed to bytes) = Handed to bytes.items

-- all that has passed, where memory for it was never refused
abbrev pub passed_at : MemoryPort → Option (List Passing)
passed_at p = cond p.is_whole (Some (map passing p.passages.items)) None

-- what comes of the calls that receive, in order, and the datagrams that they name
abbrev pub turns_of : MemoryPort → List Turn
turns_of p = p.turns.now

abbrev pub waiting_at : MemoryPort → List (List ℕ)
waiting_at p = map (λ d. d.now) p.datagrams.now

abbrev pub port_facts : MemoryPort → PortFacts
port_facts p = record { passed = passed_at p; faults = p.failures; addresses = p.addresses }
