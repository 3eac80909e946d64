-- What happens at a system with keys, by what happens below.
use Rattle.std.proofs.Common.{◌≡◌, ◌++◌, ◌∷◌, [], ℕ, Bool, true, false, List, Option, Some, None, Result, Ok, Err, cond, map, refl, sym, ap, subst, ◌∙◌}
use Rattle.std.specs.Str.{bytes_eq}
use Rattle.std.specs.declared.net.socket_addr.SocketAddr.{SocketAddr}
use Rattle.std.proofs.lemmas.List.{map-append}
use Rattle.std.proofs.lemmas.Slice.Eq.{bytes_eq-Decides}
use Rattle.system_io.specs.Histories.{Passes}
use Rattle.system_io.specs.Recipients.{address_named}
use Rattle.system_io.specs.declared.recipient.Recipient.{Recipient}
use Rattle.timeline.specs.Events.{Came, Event, Flushed, IsWritten, Noted, Refused, Sent, by_result, sent_to, sent_to_each}
use Rattle.timeline.specs.Outsides.{Adds, AddsSome, Outside, PortState, sent_by}
use Rattle.timeline.specs.declared.stream.Stream.{Stream}
use Rattle.sealed_port.specs.KeyedSystems.{KeyedSystemView, has_left_out, is_left_out, keyed_events, keyed_outside, left_out_line, outside_with, seen}
use Rattle.sealed_port.specs.Sealing.{is_sealed_by, opened, sealed}
use Rattle.sealed_port.specs.declared.keyed_system.KeyedPort.{KeyedPort}
use Rattle.sealed_port.specs.declared.seal_port.Keys.{Keys}
use Rattle.sealed_port.proofs.Opening.{opens_sealed}

-- ---- one after another

-- the events so far, where it is known whether a datagram was left out
abbrev unless : Keys → Bool → List Event → Option (List Event)
unless keys is events = cond is None (Some (map (seen keys) events))

left_out_either : (a b : List Event) → has_left_out (a ++ b) ≡ cond (has_left_out a) true (has_left_out b)
left_out_either [] b = refl
left_out_either (e ∷ a) b = by_first (is_left_out e) (left_out_either a b)
  where
    by_first : (is : Bool) → has_left_out (a ++ b) ≡ cond (has_left_out a) true (has_left_out b) → cond is true (has_left_out (a ++ b)) ≡ cond (cond is true (has_left_out a)) true (has_left_out b)
    by_first true h = refl
    by_first false h = h

passes_by : (keys : Keys) (was is : Bool) (a b : List Event) → Passes (unless keys was a) (unless keys (cond was true is) (a ++ b)) (map (seen keys) b)
passes_by keys true is a b = tt
passes_by keys false true a b = tt
passes_by keys false false a b = map-append (seen keys) a b

passes_none : {A : Type 0} (a : Option (List A)) (more : List A) → Passes a None more
passes_none None more = tt
passes_none (Some a) more = tt

passes_seen : (keys : Keys) (a b : Option (List Event)) (more : List Event) → Passes a b more → Passes (keyed_events keys a) (keyed_events keys b) (map (seen keys) more)
passes_seen keys a None more h = passes_none (keyed_events keys a) (map (seen keys) more)
passes_seen keys None (Some b) more h = absurd h
passes_seen keys (Some a) (Some b) more h =
    subst (λ (c : List Event). Passes (keyed_events keys (Some a)) (keyed_events keys (Some c)) (map (seen keys) more)) (sym h)
    (subst (λ (is : Bool). Passes (keyed_events keys (Some a)) (unless keys is (a ++ more)) (map (seen keys) more)) (sym (left_out_either a more)) (passes_by keys (has_left_out a) (has_left_out more) a more))

-- what is added below is added as it is seen
pub adds_seen : {T P F K S L : Type 0} (keys : Keys) (o : Outside T P F K S L) (a b : T) (more : List Event) → Adds o a b more → Adds (keyed_outside keys o) a b (map (seen keys) more)
adds_seen keys o a b more h = passes_seen keys (o.events a) (o.events b) more h

-- and so are events that are seen as these
pub adds_as : {T P F K S L : Type 0} (keys : Keys) (o : Outside T P F K S L) (a b : T) (below above : List Event) → map (seen keys) below ≡ above → Adds o a b below → Adds (keyed_outside keys o) a b above
adds_as keys o a b below above e h = subst (Adds (keyed_outside keys o) a b) e (adds_seen keys o a b below h)

-- a system with these keys
abbrev over : {V : Type 0} → V → Keys → KeyedSystemView V
over system keys = record { system = system; keys = keys }

-- an event that is seen as it is
pub adds_one : {V T P F K S L : Type 0} (outside : V → Outside T P F K S L) (k : KeyedSystemView V) (a b : T) (e : Event) → seen k.keys e ≡ e → Adds (outside k.system) a b (e ∷ []) → Adds (outside_with outside k) a b (e ∷ [])
adds_one outside k a b e same h = adds_as k.keys (outside k.system) a b (e ∷ []) (e ∷ []) (ap (λ (x : Event). x ∷ []) same) h

-- ---- a datagram that is left out

noted_left_out : (is : Bool) → cond is true (cond (bytes_eq left_out_line left_out_line) true false) ≡ true
noted_left_out true = refl
noted_left_out false = ap (λ (b : Bool). cond b true false) ((bytes_eq-Decides left_out_line left_out_line).1 refl)

passes_left_out : (keys : Keys) (a b : Option (List Event)) (more : List Event) → Passes a b (Noted left_out_line ∷ []) → Passes (keyed_events keys a) (keyed_events keys b) more
passes_left_out keys a None more h = passes_none (keyed_events keys a) more
passes_left_out keys None (Some b) more h = absurd h
passes_left_out keys (Some a) (Some b) more h =
    subst (λ (c : List Event). Passes (keyed_events keys (Some a)) (keyed_events keys (Some c)) more) (sym h)
    (subst (λ (is : Bool). Passes (keyed_events keys (Some a)) (unless keys is (a ++ Noted left_out_line ∷ [])) more) (sym (left_out_either a (Noted left_out_line ∷ []) ∙ noted_left_out (has_left_out a))) (passes_none (keyed_events keys (Some a)) more))

-- from then on all that is added is so
pub adds_left_out : {V T P F K S L : Type 0} (outside : V → Outside T P F K S L) (system : V) (keys : Keys) (k : KeyedSystemView V) (a b : T) (more : List Event) → over system keys ≡ k
    → Adds (outside system) a b (Noted left_out_line ∷ []) → Adds (outside_with outside k) a b more
adds_left_out {V} outside system keys k a b more is h =
    subst (λ (v : KeyedSystemView V). Adds (outside_with outside v) a b more) is (passes_left_out keys ((outside system).events a) ((outside system).events b) more h)

-- ---- events that are seen as they are

flush_seen : {A E : Type 0} (keys : Keys) (r : Result A E) (to : Stream) → seen keys (by_result r (λ _. Flushed to) (Refused to)) ≡ by_result r (λ _. Flushed to) (Refused to)
flush_seen keys (Ok a) to = refl
flush_seen keys (Err e) to = refl

pub adds_flushed : {A E V T P F K S L : Type 0} (outside : V → Outside T P F K S L) (system : V) (keys : Keys) (k : KeyedSystemView V) (a b : T) (to : Stream) (r : Result A E) → over system keys ≡ k
    → Adds (outside system) a b (by_result r (λ _. Flushed to) (Refused to) ∷ []) → Adds (outside_with outside k) a b (by_result r (λ _. Flushed to) (Refused to) ∷ [])
adds_flushed {A} {E} {V} outside system keys k a b to r is h =
    subst (λ (v : KeyedSystemView V). Adds (outside_with outside v) a b (by_result r (λ _. Flushed to) (Refused to) ∷ [])) is
    (adds_one outside (over system keys) a b (by_result r (λ _. Flushed to) (Refused to)) (flush_seen keys r to) h)

written_seen : {A E : Type 0} (keys : Keys) (to : Stream) (bytes : List ℕ) (r : Result A E) (more : List Event) → IsWritten to bytes r more → IsWritten to bytes r (map (seen keys) more)
written_seen keys to bytes (Ok a) more h = ap (map (seen keys)) h
written_seen keys to bytes (Err e) more h = (h.0, ap (map (seen keys)) h.1)

pub adds_written : {A E V T P F K S L : Type 0} (outside : V → Outside T P F K S L) (system : V) (keys : Keys) (k : KeyedSystemView V) (a b : T) (to : Stream) (bytes : List ℕ) (r : Result A E) → over system keys ≡ k
    → AddsSome (outside system) a b (IsWritten to bytes r) → AddsSome (outside_with outside k) a b (IsWritten to bytes r)
adds_written {A} {E} {V} outside system keys k a b to bytes r is h =
    subst (λ (v : KeyedSystemView V). AddsSome (outside_with outside v) a b (IsWritten to bytes r)) is
    (map (seen keys) h.0, adds_seen keys (outside system) a b h.0 h.1, written_seen keys to bytes r h.0 h.2)

-- ---- datagrams

seen_each : (keys : Keys) (sender : Option SocketAddr) (to : List Recipient) (bytes : List ℕ) → map (seen keys) (sent_to_each sender to (sealed keys.first bytes)) ≡ sent_to_each sender to bytes
unfolding sent_to_each
seen_each keys sender [] bytes = refl
seen_each keys sender (who ∷ others) bytes =
    map-append (seen keys) (sent_to (address_named sender who) (sealed keys.first bytes)) (sent_to_each sender others (sealed keys.first bytes))
    ∙ ap (λ (xs : List Event). map (seen keys) (sent_to (address_named sender who) (sealed keys.first bytes)) ++ xs) (seen_each keys sender others bytes)
    ∙ ap (λ (xs : List Event). xs ++ sent_to_each sender others bytes) (one (address_named sender who))
  where
    one : (address : Option SocketAddr) → map (seen keys) (sent_to address (sealed keys.first bytes)) ≡ sent_to address bytes
    one None = refl
    one (Some address) = ap (λ (b : List ℕ). Sent address b ∷ []) (opens_sealed keys.first bytes)

-- a datagram with its tag is seen without it
sent_seen : {T P F K S L : Type 0} (keys : Keys) (o : Outside T P F K S L) (a b : T) (state : PortState) (bytes datagram : List ℕ) → datagram ≡ sealed keys.first bytes
    → Adds o a b (sent_by state datagram) → Adds (keyed_outside keys o) a b (sent_by state bytes)
sent_seen keys o a b state bytes datagram is h =
    adds_as keys o a b (sent_by state datagram) (sent_by state bytes) (ap (λ (d : List ℕ). map (seen keys) (sent_by state d)) is ∙ seen_each keys state.sender state.to bytes) h

pub adds_sent : {V T P F K S L : Type 0} (outside : V → Outside T P F K S L) (system : V) (keys : Keys) (k : KeyedSystemView V) (a b : T) (port : KeyedPort P) (bytes datagram : List ℕ) → over system keys ≡ k → datagram ≡ sealed keys.first bytes
    → Adds (outside system) a b (sent_by ((outside system).port port.port) datagram) → Adds (outside_with outside k) a b (sent_by ((outside_with outside k).port port) bytes)
adds_sent {V} outside system keys k a b port bytes datagram is tagged h =
    subst (λ (v : KeyedSystemView V). Adds (outside_with outside v) a b (sent_by ((outside_with outside v).port port) bytes)) is
    (sent_seen keys (outside system) a b ((outside system).port port.port) bytes datagram tagged h)

-- one that came is seen as what is passed on of it
pub adds_came : {V T P F K S L : Type 0} (outside : V → Outside T P F K S L) (system : V) (keys : Keys) (k : KeyedSystemView V) (a b : T) (port : KeyedPort P) (bytes passed : List ℕ) → over system keys ≡ k
    → passed ≡ opened (is_sealed_by keys bytes) bytes → Adds (outside system) a b (Came ((outside system).port port.port).sender bytes ∷ [])
    → Adds (outside_with outside k) a b (Came ((outside_with outside k).port port).sender passed ∷ [])
adds_came {V} outside system keys k a b port bytes passed is opens h =
    let from : Option SocketAddr = ((outside system).port port.port).sender in
    subst (λ (v : KeyedSystemView V). Adds (outside_with outside v) a b (Came ((outside_with outside v).port port).sender passed ∷ [])) is
    (adds_as keys (outside system) a b (Came from bytes ∷ []) (Came from passed ∷ []) (ap (λ (d : List ℕ). Came from d ∷ []) (sym opens)) h)
