-- What a UDP port makes of the calls of its socket (this project's own).
use Rattle.std.specs.Prelude.{◌≡◌, ◌++◌, ℕ, List, [], ◌∷◌, Option, Some, None, cond, length, map, replicate, slice_index_or, take}
use Rattle.std.specs.Str.{bytes_eq}
use Rattle.std.specs.declared.net.socket_addr.SocketAddr.{SocketAddr}
use Rattle.system_io.specs.Histories.{Passes}
use Rattle.system_io.specs.Ports.{PortFacts, no_tag}
use Rattle.system_io.specs.Premises.{system_port}
use Rattle.system_io.specs.Recipients.{address_named}
use Rattle.system_io.specs.Sockets.{SocketCall, Arrived, NoneCame, Sent}
use Rattle.system_io.specs.declared.recipient.Addressed.{Addressed}
use Rattle.system_io.specs.declared.recipient.Recipient.{Recipient}
use Rattle.system_io.specs.declared.recipient.Recipient.TheVariants as recipient
use Rattle.system_io.specs.declared.udp_port.UdpPort.{UdpPort}

-- what is known of a UDP port: the calls of its socket, where they are recorded; the address from which the last datagram came; and
-- whom its words name, in order
pub record UdpFacts : Type 0 where
  pub calls : Option (List SocketCall)
  pub sender : Option SocketAddr
  pub to : List Recipient

abbrev pub udp_facts : {C S W : Type 0} → (S → Option (List SocketCall)) → UdpPort C S W → UdpFacts
udp_facts calls p = record { calls = calls p.socket; sender = p.sender; to = map (λ r. r.who) p.to.items }

-- its failures and its addresses are counted
abbrev pub udp_port_facts : {C S W : Type 0} → UdpPort C S W → PortFacts
udp_port_facts p = system_port p.failures (length p.to.items)

-- what is passed on of a datagram: all of it, but 63 of 64 bytes that are all zero
abbrev pub passed_on : List ℕ → List ℕ
passed_on bytes = cond (bytes_eq bytes no_tag) (take 63 bytes) bytes

-- so many receives gave no datagram
abbrev pub none_came : ℕ → List SocketCall
none_came n = replicate n NoneCame

-- a datagram is received from this address, after some receives that gave none: `sender` names that address from then on
pub record Hears (old new : UdpFacts) (bytes : List ℕ) : Type 0 where
  pub from : SocketAddr
  pub datagram : List ℕ
  pub before : ℕ
  pub calls : Passes old.calls new.calls (none_came before ++ Arrived from datagram ∷ [])
  pub is : bytes ≡ passed_on datagram
  pub sender : new.sender ≡ Some from
  pub to : new.to ≡ old.to

-- no datagram is received, and `sender` names the same address as before
pub record HearsNothing (old new : UdpFacts) : Type 0 where
  pub tries : ℕ
  pub calls : Passes old.calls new.calls (none_came tries)
  pub sender : new.sender ≡ old.sender
  pub to : new.to ≡ old.to

-- one of the two: a datagram, with so many bytes at the front of a buffer, or none
abbrev pub HearsOrNothing : UdpFacts → UdpFacts → List ℕ → Option ℕ → Type 0
HearsOrNothing old new buffer (Some n) = Hears old new (take n buffer)
HearsOrNothing old new buffer None = HearsNothing old new

-- the one at a place
abbrev pub who_at : List Addressed → ℕ → Recipient
who_at to place = slice_index_or (map (λ r. r.who) to) place recipient.Unknown

-- bytes for this address, if there is one
abbrev pub sent_to : Option SocketAddr → List ℕ → List SocketCall
sent_to None bytes = []
sent_to (Some address) bytes = Sent address bytes ∷ []

-- bytes for the one at a place
abbrev pub sent_at : Option SocketAddr → List Addressed → ℕ → List ℕ → List SocketCall
sent_at sender to place bytes = sent_to (address_named sender (who_at to place)) bytes

-- bytes for each of those that are named, once and in their order
unfoldable pub sent_to_each : Option SocketAddr → List Recipient → List ℕ → List SocketCall
sent_to_each sender [] bytes = []
sent_to_each sender (who ∷ others) bytes = sent_to (address_named sender who) bytes ++ sent_to_each sender others bytes

-- bytes are sent to each of them, and nothing else is
pub record Sends (old new : UdpFacts) (bytes : List ℕ) : Type 0 where
  pub calls : Passes old.calls new.calls (sent_to_each old.sender old.to bytes)
  pub sender : new.sender ≡ old.sender
  pub to : new.to ≡ old.to
