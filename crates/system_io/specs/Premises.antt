-- What is trusted of the system: for each of its own disks, inputs, outputs, ports, files and hosts what a proof knows of
-- it. The standard library claims nothing of what the system's calls do, so each says only that the system is called.
use Rattle.std.specs.Prelude.{◌≡◌, ℕ, Bool, true, false, List, [], ◌∷◌, Option, None}
use Rattle.system_io.specs.Disks.{DiskFacts}
use Rattle.system_io.specs.FileCalls.{CallFacts}
use Rattle.system_io.specs.Handles.{HandleFacts, PathFacts}
use Rattle.system_io.specs.Inputs.{InputFacts}
use Rattle.system_io.specs.LineReaders.{LineFacts}
use Rattle.system_io.specs.Outputs.{OutputFacts}
use Rattle.system_io.specs.Ports.{PortFacts}
use Rattle.system_io.specs.declared.host.LockFault.{LockFault}
use Rattle.system_io.specs.declared.system_file.SystemCalls.{SystemCalls}
use Rattle.system_io.specs.declared.call_log.CallLog.{CallLog}
use Rattle.system_io.specs.declared.udp_port.UdpPort.{UdpPort}
use Rattle.system_io.specs.Traces.{IsAmong}
use Rattle.system_io.specs.Hosts.{HostFacts}
use Rattle.system_io.specs.Places.{IsAtPath, IsBound, ListensAt}

-- DISK: the names of a folder and the bytes of a file are those that the system gives, and what it refuses can't be read.
-- PRIVATE: the mode of a file is what the system says of it when it is open, and what it says to be no regular file is none.
-- REGULAR: what it says to be a regular file stays one until it is open, so that to open it waits for nobody
abbrev pub system_disk : DiskFacts
system_disk = record {
  is_told = false;
  lists = λ _ _. Unit {0};
  holds = λ _ _. Unit {0};
  fails = λ _. Unit {0};
  has_mode = λ _ _. Unit {0};
  is_irregular = λ _. Unit {0};
}

-- INPUT: the bytes of standard input are those that the system gives. An input that it refuses can't be read. Where it says
-- that memory was refused, memory was refused.
abbrev pub system_input : InputFacts
system_input = record { is_told = false; gives = λ _. Unit {0}; fails = Unit {0}; takes_memory = Unit {0} }

-- LINES: an input with a refused read can't be read to its end, and where the system says that memory was refused, memory
-- was refused
abbrev pub system_lines : Option (List ℕ) → List ℕ → LineFacts
system_lines left ahead = record { left = left; ahead = ahead; fails = Unit {0}; takes_memory = Unit {0} }

-- OUTPUT: what no longer waits in the buffer was given to the system, and so has gone out; any write may be refused
abbrev pub system_output : List ℕ → Bool → OutputFacts
system_output waiting is_stuck = record { gone = (waiting ≡ []) × (is_stuck ≡ false); stuck = is_stuck ≡ true; refuses = Unit {0} }

-- DATAGRAMS: what the socket receives came (63 bytes of 64 that are all zero), and what is passed to it is on its way to each address. Failed calls and
-- addresses are counted.
abbrev pub system_port : ℕ → ℕ → PortFacts
system_port faults addresses = record { passed = None; faults = faults; addresses = addresses }

-- BESIDE: a file that is made where nothing stands, and then locked, is written by no other process while it is locked; nothing else is
-- opened to be written, but for files that are locked, to which nothing is written
-- HANDLES: bytes that the system takes are in the file, in that order and once each; where a sync returns, they are on the disk; where a
-- lock is given, this process has it; a file has the numbers and names that the system tells of it
abbrev pub system_handle : HandleFacts
system_handle = record {
  holds = λ _. Unit {0};
  is_synced = Unit {0};
  is_locked = Unit {0};
  is_linked = Unit {0};
  is_numbered = λ _. Unit {0};
  is_made_at = λ _. Unit {0};
}

-- PATHS: at a path stands what the system tells, and nothing that could be read where it says so; a rename that returns has given the
-- name, and where the sync of a folder returns, its names are on the disk
abbrev pub system_paths : PathFacts
system_paths = record { names = λ _ _. Unit {0}; lacks = λ _. Unit {0}; renames = λ _ _. Unit {0}; syncs = λ _. Unit {0} }

-- CALLS: a read or a sync that the system refuses can't be done, and where it says that memory was refused, memory was
-- refused
abbrev pub system_calls : CallFacts
system_calls = record { made = None; fails = λ _. Unit {0} }

-- KEPT FILE: a start reads one of the contents that may stand under the name, by the calls of the last run that had a
-- keeper and their results. These are what was read when that run began, and each record that was to take the name since
-- the folder was last synced. A start that failed since then changed nothing there.
pub record IsAsTold {C : Type 0} (left : CallLog C) (read : Option (List ℕ)) : Type 0 where
  pub among : left.is_known ≡ true → IsAmong read (left.stands ∷ left.earlier.items)

-- LOCK: the lock of a file that the system gives to a process it gives to no other one until the process lets it go or ends; where it
-- says that another one holds it, one does
abbrev pub system_gives : List ℕ → Type 0
system_gives path = Unit {0}

abbrev pub system_bars : List ℕ → LockFault → Type 0
system_bars path fault = Unit {0}

-- HOST: a socket that was made for an address is bound to it, and listens at the address that it tells as its own; the calls for a
-- path are made at that path; an address that the system refuses can't be bound, and where it tells that memory was refused, memory
-- was refused
abbrev pub system_host : {C S W X Y Z : Type 0} → HostFacts (UdpPort C S W) (CallLog (SystemCalls X Y Z))
system_host = record { is_told = true; binds = IsBound; listens = ListensAt; refuses = λ _ _. Unit {0}; is_at = IsAtPath; takes_memory = λ _. Unit {0}; gives_lock = system_gives; bars = system_bars }
