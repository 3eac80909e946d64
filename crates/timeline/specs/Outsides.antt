-- What is known of everything outside (this project's own).
use Rattle.std.specs.Prelude.{◌≡◌, ◌≤◌, ◌⊎◌, ℕ, true, List, [], ◌∷◌, Option, Result, IsSome, OnErr}
use Rattle.std.specs.declared.net.socket_addr.SocketAddr.{SocketAddr}
use Rattle.system_io.specs.Disks.{DiskFacts, HoldsOne}
use Rattle.system_io.specs.Inputs.{GivesOne, InputFacts}
use Rattle.system_io.specs.KeptFiles.{FindsOldOrNew, FindsOne, KeptFacts}
use Rattle.system_io.specs.LineReaders.{LineFacts}
use Rattle.system_io.specs.Outputs.{NotBoth, OutputFacts}
use Rattle.system_io.specs.Recipients.{Names}
use Rattle.system_io.specs.Records.{FindsBatchOrNot, IsSettled, StoreFacts, StorePlaces}
use Rattle.system_io.specs.declared.host.BindFault.{BindFault}
use Rattle.system_io.specs.declared.host.LockFault.{LockFault}
use Rattle.system_io.specs.declared.recipient.Recipient.{Recipient}
use Rattle.system_io.specs.declared.record_store.Entry.{Entry}
use Rattle.timeline.specs.Events.{Event, Passes, sent_to_each}
use Rattle.timeline.specs.declared.stream.Stream.{Stream}

-- what is known of a port
pub record PortState : Type 0 where
  -- the address to which it was bound
  pub address : List ℕ
  -- the address at which it listens, by the number that it got where it was bound to port 0; none where that isn't known
  pub own : Option SocketAddr
  -- to whom it sends, in order
  pub to : List Recipient
  -- who sent the last datagram, where one came and that is known
  pub sender : Option SocketAddr
  -- how often it has failed; at its greatest value the count stays
  pub faults : ℕ

-- each of these words names the one at its place, at a port with this own address
abbrev pub AreNamed : Option SocketAddr → List (List ℕ) → List Recipient → Type 0
AreNamed own [] [] = Unit {0}
AreNamed own [] (who ∷ others) = ⊥
AreNamed own (word ∷ words) [] = ⊥
AreNamed own (word ∷ words) (who ∷ others) = Names own word who × AreNamed own words others

-- it sends to the same, and the count of its failures didn't fall
pub record SendsToSame (old new : PortState) : Type 0 where
  pub to : new.to ≡ old.to
  pub faults : old.faults ≤ new.faults

-- and nobody else sent the last datagram
pub record HeardNothing (old new : PortState) : Type 0 where
  pub same : SendsToSame old new
  pub sender : new.sender ≡ old.sender

-- bytes go to each of those to whom it sends
abbrev pub sent_by : PortState → List ℕ → List Event
sent_by port bytes = sent_to_each port.sender port.to bytes

-- what is left of some lines is known, or they can't be read to their end
abbrev pub FailsOrIsKnown : LineFacts → Type 0
FailsOrIsKnown lines = lines.fails ⊎ IsSome lines.left

-- after a put that failed, where every start found what was there before, it finds that or these bytes
abbrev pub LeavesOldOrNew : {A E : Type 0} → Result A E → KeptFacts → KeptFacts → List ℕ → Type 0
LeavesOldOrNew result before after bytes = (old : Option (List ℕ)) → before.finds old old → OnErr result (FindsOldOrNew after old bytes)

-- where every start found what the store has, it finds that, or all with the whole batch
abbrev pub LeavesBatchOrNot : StoreFacts → StoreFacts → List Entry → Type 0
LeavesBatchOrNot before after entries = IsSettled before → FindsBatchOrNot after before.has entries

-- All that is known of what is outside. T is the type of the timeline, P that of a port, F that of a kept file, K that of a
-- lock, S that of a store and L that of lines that are read one by one. What is said of no value of these doesn't change.
pub record Outside (T P F K S L : Type 0) : Type 1 where
  -- what happened so far, in order; none where it isn't recorded
  pub events : T → Option (List Event)
  -- the bytes that were written, where they are known beside the events
  pub written : T → Stream → Option (List ℕ)
  -- whether what was written has gone out, and whether a write may be refused
  pub output : T → Stream → OutputFacts
  -- what folders list, what files hold, and what can't be read
  pub disk : DiskFacts
  -- the bytes of the input, and whether it can't be read
  pub input : InputFacts
  -- the remaining bytes of lines, where they are known, and whether they can't be read to their end
  pub lines : L → LineFacts
  pub port : P → PortState
  -- no port is bound to this address, for this reason
  pub refuses_port : List ℕ → BindFault → Type 0
  -- the path of a kept file
  pub path : F → List ℕ
  -- how far new bytes are on their way to its name, and what a start finds there
  pub file : F → KeptFacts
  -- opening the file at this path may take memory, which may be refused
  pub takes_memory : List ℕ → Type 0
  -- the file at this path is locked, and no other process holds its lock
  pub gives_lock : List ℕ → Type 0
  -- the path of the file that is locked
  pub lock_path : K → List ℕ
  -- the file at this path isn't locked, for this reason
  pub bars_lock : List ℕ → LockFault → Type 0
  -- the path of a store
  pub store_path : S → List ℕ
  -- what it has, what a start may find after a stop now, and whether its disk has returned what was written
  pub store : S → StoreFacts
  -- which store is at a path, and which records the files of a store hold
  pub stores : StorePlaces S

-- no two of these facts contradict one another
pub record IsConsistent {T P F K S L : Type 0} (o : Outside T P F K S L) : Type 0 where
  -- a disk whose contents are stated has one list for each folder and one content for each file
  pub disk : o.disk.is_told ≡ true → HoldsOne o.disk
  -- an input whose bytes are stated has one list of them
  pub input : o.input.is_told ≡ true → GivesOne o.input
  -- where every start finds one of two contents, whichever it finds is among any other such two
  pub file : (f : F) → FindsOne (o.file f)
  -- what has gone out isn't stuck
  pub output : (t : T) (to : Stream) → NotBoth (o.output t to)

-- from one moment to a later one these events came
abbrev pub Adds : {T P F K S L : Type 0} → Outside T P F K S L → T → T → List Event → Type 0
Adds o old new more = Passes (o.events old) (o.events new) more

-- some events came, of which this is so
abbrev pub AddsSome : {T P F K S L : Type 0} → Outside T P F K S L → T → T → (List Event → Type 0) → Type 0
AddsSome o old new P = (more : List Event) × Adds o old new more × P more
