-- Systems whose ports are sealed (this project's own).
use Rattle.std.specs.Prelude.{◌≡◌, ◌+◌, ℕ, Bool, true, false, List, [], ◌∷◌, Option, Some, None, codes, cond, map}
use Rattle.std.specs.Str.{bytes_eq}
use Rattle.timeline.specs.Events.{Event, Came, Noted, Sent}
use Rattle.timeline.specs.Outsides.{Adds, IsConsistent, Outside, PortState, sent_by}
use Rattle.sealed_port.specs.Sealing.{capped_count, is_sealed, is_sealed_by, opened, sealed}
use Rattle.sealed_port.specs.declared.keyed_system.KeyedPort.{KeyedPort}
use Rattle.sealed_port.specs.declared.seal_port.Keys.{Keys}

-- what contracts see of a system with keys: the system below, and the keys
pub record KeyedSystemView (S : Type 0) : Type 0 where
  pub system : S
  pub keys : Keys

-- the line that is noted of a datagram that is left out
abbrev pub left_out_line : List ℕ
left_out_line = codes "a datagram of more than 48 bytes was left out"

abbrev pub is_left_out : Event → Bool
is_left_out (Noted line) = bytes_eq line left_out_line
is_left_out _ = false

-- it was noted that a datagram was left out
abbrev pub has_left_out : List Event → Bool
has_left_out [] = false
has_left_out (e ∷ events) = cond (is_left_out e) true (has_left_out events)

-- what an event of the system below is seen as: what was sent counts only with the tag of the first key
abbrev pub seen : Keys → Event → Event
seen keys (Came from bytes) = Came from (opened (is_sealed_by keys bytes) bytes)
seen keys (Sent to bytes) = Sent to (opened (is_sealed keys.first bytes) bytes)
seen keys e = e

-- what happened, by what happened below: from a datagram on that is left out it isn't known
abbrev pub keyed_events : Keys → Option (List Event) → Option (List Event)
keyed_events keys None = None
keyed_events keys (Some events) = cond (has_left_out events) None (Some (map (seen keys) events))

-- a port by the one below it: its failures are those below and the datagrams that it left out
abbrev pub keyed_state : {P : Type 0} → (P → PortState) → KeyedPort P → PortState
keyed_state state p = record {
  address = (state p.port).address;
  own = (state p.port).own;
  to = (state p.port).to;
  sender = (state p.port).sender;
  faults = capped_count ((state p.port).faults + p.left_out);
}

-- all but the events and the ports is that of the system below
abbrev pub keyed_outside : {T P F K S L : Type 0} → Keys → Outside T P F K S L → Outside T (KeyedPort P) F K S L
keyed_outside keys o = record {
  events = λ t. keyed_events keys (o.events t);
  written = o.written;
  output = o.output;
  disk = o.disk;
  input = o.input;
  lines = o.lines;
  port = keyed_state o.port;
  refuses_port = o.refuses_port;
  path = o.path;
  file = o.file;
  takes_memory = o.takes_memory;
  gives_lock = o.gives_lock;
  lock_path = o.lock_path;
  bars_lock = o.bars_lock;
  store_path = o.store_path;
  store = o.store;
  stores = o.stores;
}

abbrev pub outside_with : {S T P F K U L : Type 0} → (S → Outside T P F K U L) → KeyedSystemView S → Outside T (KeyedPort P) F K U L
outside_with outside k = keyed_outside k.keys (outside k.system)

pub keyed_one : {T P F K S L : Type 0} (keys : Keys) (o : Outside T P F K S L) → IsConsistent o → IsConsistent (keyed_outside keys o)
keyed_one keys o one = record { disk = one.disk; input = one.input; file = one.file; output = one.output }

-- the datagram goes to each recipient with its tag under the first key, nothing else is sent below, and nothing is left out
pub record SendsTagged {T P F K S L : Type 0} (keys : Keys) (o : Outside T P F K S L) (before after : T) (old new : KeyedPort P) (bytes : List ℕ) : Type 0 where
  pub below : Adds o before after (sent_by (o.port old.port) (sealed keys.first bytes))
  pub left_out : new.left_out ≡ old.left_out

-- the datagram is left out: below that is noted and nothing else, and it is counted
pub record LeavesItOut {T P F K S L : Type 0} (o : Outside T P F K S L) (before after : T) (old new : KeyedPort P) : Type 0 where
  pub below : Adds o before after (Noted left_out_line ∷ [])
  pub port : new.port ≡ old.port
  pub left_out : new.left_out ≡ capped_count (old.left_out + 1)
