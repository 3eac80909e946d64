-- Ports that are bound to the address of one word and send to those of another (this project's own).
use Rattle.std.specs.Prelude.{◌≡◌, ◌<◌, ◌++◌, ℕ, List, [], ◌∷◌, Result, Ok, Err, codes, length}
use Rattle.arbiter_server.specs.ServedLines.{refused_port}
use Rattle.command_line.specs.Addresses.{addresses_of}
use Rattle.line_teller.specs.ToldLines.{refused_memory}
use Rattle.system_io.specs.declared.host.BindFault.{BindFault}
use Rattle.system_io.specs.declared.host.BindFault.TheVariants as bind
use Rattle.timeline.specs.Events.{Event, PortBound}
use Rattle.timeline.specs.Outsides.{AreNamed, Outside}
use Rattle.host_commands.specs.Notes.{ThenMayNote}

-- it is bound to this address, and sends to each of those that this word names
pub record IsPortOf {T P F K S L : Type 0} (o : Outside T P F K S L) (address to : List ℕ) (port : P) : Type 0 where
  pub at : (o.port port).address ≡ address
  pub each : AreNamed (o.port port).own (addresses_of to) (o.port port).to

abbrev pub unbound_line : List ℕ → List ℕ
unbound_line address = address ++ codes " can't be bound"

module _ {T P F K S L : Type 0} (o : Outside T P F K S L) (address to : List ℕ) where
  -- it was asked for, and this came of it
  abbrev pub port_asked : Result (Unit {0}) BindFault → Event
  port_asked done = PortBound address (addresses_of to) done

  -- it couldn't be bound, and a line is noted that says so
  abbrev pub IsUnbound : List Event → Type 0
  IsUnbound events = ThenMayNote (port_asked (Err bind.Unbound)) (unbound_line address) events

  -- A port is bound. Or the address can't be, and a line is noted that says so. Or memory was refused: by the system, or for several
  -- addresses, of which no cause is known.
  pub data BindsPort (result : Result P (List ℕ)) (events : List Event) : Type 0 where
    IsBound : (port : P) → IsPortOf o address to port → result ≡ Ok port → events ≡ port_asked (Ok tt) ∷ [] → BindsPort result events
    Unbound : o.refuses_port address bind.Unbound → result ≡ Err refused_port → IsUnbound events → BindsPort result events
    NoRoomToBind : o.refuses_port address bind.OutOfMemory
        → result ≡ Err refused_memory → events ≡ port_asked (Err bind.OutOfMemory) ∷ [] → BindsPort result events
    NoRoomForAddresses : 1 < length (addresses_of to) → result ≡ Err refused_memory → events ≡ [] → BindsPort result events
