-- What is known of the system's own disk, input, output, ports, files and stores (this project's own). Nothing is trusted of them but what
-- Premises of system_io says. What happens isn't recorded.
use Rattle.std.specs.Prelude.{◌⊎◌, ◌≡◌, ℕ, List, Option, None, string_bytes}
use Rattle.system_io.specs.Disks.{DiskFacts}
use Rattle.system_io.specs.Inputs.{InputFacts}
use Rattle.system_io.specs.KeptFiles.{KeptFacts}
use Rattle.system_io.specs.LineReaders.{LineFacts}
use Rattle.system_io.specs.Outputs.{OutputFacts}
use Rattle.system_io.specs.Premises.{system_bars, system_gives}
use Rattle.system_io.specs.Records.{StoreFacts, StorePlaces}
use Rattle.system_io.specs.UdpPorts.{udp_facts, udp_port_facts}
use Rattle.system_io.specs.declared.lock_file.LockFile.{LockFile}
use Rattle.system_io.specs.declared.record_store.StoreFault.TheVariants.{OutOfMemory}
use Rattle.system_io.specs.declared.udp_port.UdpPort.{UdpPort}
use Rattle.timeline.specs.Outsides.{Outside, PortState}
use Rattle.timeline.specs.declared.machine.MachineFile.{MachineFile}
use Rattle.timeline.specs.declared.machine.MachineLines.{MachineLines}
use Rattle.timeline.specs.declared.machine.MachineLines.TheVariants as lines
use Rattle.timeline.specs.declared.machine.MachineStore.{MachineStore}
use Rattle.timeline.specs.declared.machine.MachineTimeline.{MachineTimeline}
use Rattle.timeline.specs.declared.stream.Stream.{Stream}
use Rattle.timeline.specs.declared.stream.Stream.TheVariants as stream

-- a UDP port: who sent its last datagram, and to whom it sends, by its words
abbrev pub udp_state : {C S N : Type 0} → UdpPort C S N → PortState
udp_state p = record {
  address = string_bytes p.address;
  own = p.own;
  to = (udp_facts (λ _. None) p).to;
  sender = (udp_facts (λ _. None) p).sender;
  faults = (udp_port_facts p).faults;
}

abbrev pub lines_of : {A B : Type 0} → (A → LineFacts) → (B → LineFacts) → MachineLines A B → LineFacts
lines_of file input (lines.OfFile l) = file l
lines_of file input (lines.OfInput l) = input l

abbrev pub output_of : {W E : Type 0} → (W → OutputFacts) → (E → OutputFacts) → MachineTimeline W E → Stream → OutputFacts
output_of out errors t stream.Output = out t.out
output_of out errors t stream.Errors = errors t.errors

abbrev pub written_of : {W E : Type 0} → (W → Option (List ℕ)) → (E → Option (List ℕ)) → MachineTimeline W E → Stream → Option (List ℕ)
written_of out errors t stream.Output = out t.out
written_of out errors t stream.Errors = errors t.errors

-- stores over those that are given; opening one may also take memory for its path, which may be refused
abbrev pub places_of : {U : Type 0} → StorePlaces U → StorePlaces (MachineStore U)
places_of stores = record {
  is_at = λ path s. stores.is_at path s.store;
  refuses = λ path fault. stores.refuses path fault ⊎ (fault ≡ OutOfMemory);
  holds = stores.holds;
  withholds = stores.withholds;
}

-- by what is known of disks, inputs and their lines, of each output, of files and of stores
abbrev pub machine_outside : {W E C S N F U A B : Type 0} → DiskFacts → InputFacts → (A → LineFacts) → (B → LineFacts) → (W → Option (List ℕ)) → (E → Option (List ℕ)) → (W → OutputFacts) → (E → OutputFacts) → (F → KeptFacts) → StorePlaces U → (U → StoreFacts) → Outside (MachineTimeline W E) (UdpPort C S N) (MachineFile F) LockFile (MachineStore U) (MachineLines A B)
machine_outside disk input file_lines input_lines out_bytes errors_bytes out errors file stores store = record {
  events = λ _. None;
  written = written_of out_bytes errors_bytes;
  output = output_of out errors;
  disk = disk;
  input = input;
  lines = lines_of file_lines input_lines;
  port = udp_state;
  refuses_port = λ _ _. Unit {0};
  path = λ f. string_bytes f.path;
  file = λ f. file f.file;
  takes_memory = λ _. Unit {0};
  gives_lock = system_gives;
  lock_path = λ lock. string_bytes lock.locked.path;
  bars_lock = system_bars;
  store_path = λ s. string_bytes s.path;
  store = λ s. store s.store;
  stores = places_of stores;
}
