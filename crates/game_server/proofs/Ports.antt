-- A port from one moment to a later one.
use Rattle.std.proofs.Common.{◌≡◌, ◌∙◌, refl, ap, arith, List, Option}
use Rattle.std.specs.declared.net.socket_addr.SocketAddr.{SocketAddr}
use Rattle.system_io.specs.declared.recipient.Recipient.{Recipient}
use Rattle.timeline.specs.Outsides.{HeardNothing, PortState, SendsToSame}
use Rattle.game_server.specs.Sending.{address, address_of}

pub sends_to_same : (p : PortState) → SendsToSame p p
sends_to_same p = record { to = refl; faults = omega arith }

pub heard_nothing : (p : PortState) → HeardNothing p p
heard_nothing p = record { same = sends_to_same p; sender = refl }

pub same_then : (a b c : PortState) → SendsToSame a b → SendsToSame b c → SendsToSame a c
same_then a b c p q = let x = p.faults in let y = q.faults in record { to = q.to ∙ p.to; faults = omega arith }

pub nothing_then : (a b c : PortState) → HeardNothing a b → HeardNothing b c → HeardNothing a c
nothing_then a b c p q = record { same = same_then a b c p.same q.same; sender = q.sender ∙ p.sender }

-- it sends as before
pub still_to : (a b : PortState) → HeardNothing a b → address_of b ≡ address_of a
still_to a b h = ap (λ (s : Option SocketAddr). address s b.to) h.sender ∙ ap (λ (to : List Recipient). address a.sender to) h.same.to
