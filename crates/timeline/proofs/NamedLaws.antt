-- Whom the words of a port name, one after another.
use Rattle.std.proofs.Common.{◌≡◌, ◌++◌, ◌∷◌, [], List, map, ℕ, Option, subst}
use Rattle.std.specs.List.{All}
use Rattle.std.specs.Prelude.{Result, Ok, Err, IfOk}
use Rattle.std.specs.declared.net.socket_addr.SocketAddr.{SocketAddr}
use Rattle.std.proofs.lemmas.List.Elements.{All-head, All-tail}
use Rattle.system_io.specs.Recipients.{IsAddressed, Names, addressed_word}
use Rattle.system_io.specs.declared.recipient.Addressed.{Addressed}
use Rattle.system_io.specs.declared.recipient.Recipient.{Recipient}
use Rattle.system_io.specs.Places.{IsBound}
use Rattle.system_io.specs.declared.udp_port.UdpPort.{UdpPort}
use Rattle.timeline.specs.Machines.{udp_state}
use Rattle.timeline.specs.Outsides.{AreNamed}

pub named_all : (own : Option SocketAddr) (to : List Addressed) → All (IsAddressed own) to → AreNamed own (map addressed_word to) (map (λ r. r.who) to)
named_all own [] h = tt
named_all own (one ∷ others) h = (All-head (IsAddressed own) one others h, named_all own others (All-tail (IsAddressed own) one others h))

-- the words of a port name those to whom it sends
pub named_as : (own : Option SocketAddr) (words : List (List ℕ)) (to : List Addressed) → map addressed_word to ≡ words → All (IsAddressed own) to → AreNamed own words (map (λ r. r.who) to)
named_as own words to is h = subst (λ (ws : List (List ℕ)). AreNamed own ws (map (λ r. r.who) to)) is (named_all own to h)

-- with one word more
pub named_push : (own : Option SocketAddr) (words : List (List ℕ)) (to : List Recipient) (word : List ℕ) (who : Recipient) → AreNamed own words to → Names own word who → AreNamed own (words ++ word ∷ []) (to ++ who ∷ [])
named_push own [] [] word who h n = (n, tt)
named_push own [] (r ∷ rs) word who h n = absurd h
named_push own (w ∷ ws) [] word who h n = absurd h
named_push own (w ∷ ws) (r ∷ rs) word who h n = (h.0, named_push own ws rs word who h.1 n)

-- a port that is bound by some words sends to those whom they name
pub bound_as : {C S N E : Type 0} (r : Result (UdpPort C S N) E) (address : List ℕ) (words : List (List ℕ)) → IfOk r (IsBound address words) → IfOk r (λ port. AreNamed (udp_state port).own words (udp_state port).to)
bound_as (Ok port) address words h = named_as port.own words port.to.items h.sends h.names
bound_as (Err e) address words h = tt
