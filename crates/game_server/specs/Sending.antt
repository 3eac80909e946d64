-- What is sent of an answer, over one timeline (this project's own).
use Rattle.std.specs.Prelude.{List, [], cond, Option, Some, None}
use Rattle.std.specs.List.{AllByRecursion, flat_map}
use Rattle.std.specs.declared.net.socket_addr.SocketAddr.{SocketAddr}
use Rattle.arbiter_core.specs.Answering.{request_of}
use Rattle.arbiter_core.specs.Views.{View}
use Rattle.move_msg.specs.declared.message.Message.{Message}
use Rattle.move_msg.specs.Messages.{SpellsMessage, message_text}
use Rattle.system_io.specs.declared.recipient.Recipient.{Recipient}
use Rattle.timeline.specs.Events.{Event, sent_to_each}
use Rattle.timeline.specs.Outsides.{PortState}

-- where an answer goes: to these recipients, among whom the sender of the datagram may be
pub record Address : Type 0 where
  pub sender : Option SocketAddr
  pub to : List Recipient

abbrev pub address : Option SocketAddr → List Recipient → Address
address sender to = record { sender = sender; to = to }

abbrev pub address_of : PortState → Address
address_of port = address port.sender port.to

-- a message goes to each of them, once and in their order
abbrev pub message_sent : Address → Message → List Event
message_sent to m = sent_to_each to.sender to.to (message_text m)

-- each of some messages, in order
abbrev pub sent : Address → List Message → List Event
sent to messages = flat_map (message_sent to) messages

-- all messages that are sent have an encoding
abbrev pub AllSpelled : List Message → Type 0
AllSpelled messages = AllByRecursion (λ m. SpellsMessage (message_text m) m) messages

-- the request for moves of an arbiter, where it has one
abbrev pub request : View → Option Message
request v = cond v.is_down None (request_of v.me v.kept)

abbrev pub request_sent : Address → Option Message → List Event
request_sent to None = []
request_sent to (Some m) = message_sent to m

-- it has an encoding
abbrev pub IsRequestSpelled : Option Message → Type 0
IsRequestSpelled None = Unit {0}
IsRequestSpelled (Some m) = SpellsMessage (message_text m) m
