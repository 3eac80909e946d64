-- Whom the words of a port name (this project's own).
use Rattle.std.specs.Prelude.{◌≡◌, ◌≢◌, ℕ, List, Option, Some, None, codes, string_bytes}
use Rattle.std.specs.Net.Addr.{is_ipv4}
use Rattle.std.specs.Net.Socket.{socket_ip}
use Rattle.std.specs.Net.Grammar.{IsSocketText}
use Rattle.std.specs.declared.net.socket_addr.SocketAddr.{SocketAddr}
use Rattle.system_io.specs.declared.recipient.Addressed.{Addressed}
use Rattle.system_io.specs.declared.recipient.Recipient.{Recipient}
use Rattle.system_io.specs.declared.recipient.Recipient.TheVariants as recipient

-- the word for whoever sent the datagram that came last
abbrev pub sender_word : List ℕ
sender_word = codes "sender"

-- the address is of the kind, IPv4 or IPv6, of a port's own, where that is known
abbrev pub IsOfKind : Option SocketAddr → SocketAddr → Type 0
IsOfKind None address = Unit {0}
IsOfKind (Some own) address = is_ipv4 (socket_ip own) ≡ is_ipv4 (socket_ip address)

-- whom a word names at a port with this own address: only `sender` names the sender, and an IP address with a port names itself. Of what
-- a host name names only the kind is stated, which is the port's own: so the port can send to it
pub record Names (own : Option SocketAddr) (word : List ℕ) (who : Recipient) : Type 0 where
  pub sender : word ≡ sender_word → who ≡ recipient.Sender
  pub only : who ≡ recipient.Sender → word ≡ sender_word
  pub address : word ≢ sender_word → (a : SocketAddr) → IsSocketText word a → (b : SocketAddr) × (who ≡ recipient.At b) × IsSocketText word b
  pub kind : word ≢ sender_word → ((a : SocketAddr) → IsSocketText word a → ⊥) → (b : SocketAddr) → who ≡ recipient.At b → IsOfKind own b

-- a word of a port, and that it names the one beside it
abbrev pub addressed_word : Addressed → List ℕ
addressed_word one = string_bytes one.word

abbrev pub IsAddressed : Option SocketAddr → Addressed → Type 0
IsAddressed own one = Names own (addressed_word one) one.who

-- the address of the one that is named, where the last datagram came from this one: none where a name wasn't found, or where nothing
-- came yet
abbrev pub address_named : Option SocketAddr → Recipient → Option SocketAddr
address_named sender (recipient.At address) = Some address
address_named sender recipient.Unknown = None
address_named sender recipient.Sender = sender
