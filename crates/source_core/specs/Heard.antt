-- What a source hears at its port, by what happens outside (this project's own).
use Rattle.std.specs.Prelude.{◌≡◌, List, [], ◌∷◌, Option}
use Rattle.std.specs.List.{AllByRecursion, flat_map}
use Rattle.std.specs.declared.net.socket_addr.SocketAddr.{SocketAddr}
use Rattle.system_io.specs.Ports.{Passing}
use Rattle.system_io.specs.Ports as passing
use Rattle.system_io.specs.declared.recipient.Recipient.{Recipient}
use Rattle.timeline.specs.Events.{Event, Came, Missed, Noted, Passes, Quiet}
use Rattle.timeline.specs.Outsides.{Outside}

-- what an event lets a port hear: a datagram, that none came in time, or that none could be received
abbrev pub heard_in : Event → List Passing
heard_in (Came from bytes) = passing.Came bytes ∷ []
heard_in (Quiet nanos) = passing.Quiet nanos ∷ []
heard_in Missed = passing.Missed ∷ []
heard_in _ = []

-- what was heard, in order; whatever else happened
abbrev pub heard : List Event → List Passing
heard events = flat_map heard_in events

-- who sent the last datagram, where it was this one before
abbrev pub sender_by : Option SocketAddr → Event → Option SocketAddr
sender_by before (Came from bytes) = from
sender_by before _ = before

abbrev pub sender_after : Option SocketAddr → List Event → Option SocketAddr
sender_after before [] = before
sender_after before (event ∷ events) = sender_after (sender_by before event) events

-- ---- what happens while a source waits

-- something is heard; or a line is noted for whoever runs the source
abbrev pub IsHearing : Event → Type 0
IsHearing (Came from bytes) = Unit {0}
IsHearing (Quiet nanos) = Unit {0}
IsHearing Missed = Unit {0}
IsHearing (Noted line) = Unit {0}
IsHearing _ = ⊥

abbrev pub IsNote : Event → Type 0
IsNote (Noted line) = Unit {0}
IsNote _ = ⊥

-- nothing but notes
abbrev pub OnlyNotes : List Event → Type 0
OnlyNotes events = AllByRecursion IsNote events

-- ---- moments

-- what has happened, where that is recorded; to whom the port sends; and who sent the last datagram
pub record Moment : Type 0 where
  pub events : Option (List Event)
  pub to : List Recipient
  pub sender : Option SocketAddr

abbrev pub moment : {T P F K S L : Type 0} → Outside T P F K S L → T → P → Moment
moment o t p = record { events = o.events t; to = (o.port p).to; sender = (o.port p).sender }

-- from one moment to a later one this happened
pub record Happened (old new : Moment) (more : List Event) : Type 0 where
  pub passes : Passes old.events new.events more
  pub to : new.to ≡ old.to
  pub sender : new.sender ≡ sender_after old.sender more
