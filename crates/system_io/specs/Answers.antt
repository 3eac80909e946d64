-- Where the answers to a datagram go (this project's own).
use Rattle.std.specs.Prelude.{◌≡◌, ◌⊎◌, ◌++◌, ℕ, List, [], ◌∷◌, Option, Some}
use Rattle.std.specs.List.{All, Contains}
use Rattle.std.specs.declared.net.socket_addr.SocketAddr.{SocketAddr}
use Rattle.system_io.specs.Histories.{Passes}
use Rattle.system_io.specs.Sockets.{SocketCall, Arrived, NoneCame, Sent}
use Rattle.system_io.specs.UdpPorts.{Hears, Sends, UdpFacts, none_came, sent_to_each}
use Rattle.system_io.specs.declared.recipient.Recipient.{Recipient}
use Rattle.system_io.specs.declared.recipient.Recipient.TheVariants as recipient

-- these are sent, one after another
abbrev pub SendsAll : UdpFacts → UdpFacts → List (List ℕ) → Type 0
SendsAll old new [] = new ≡ old
SendsAll old new (answer ∷ answers) = (mid : UdpFacts) × Sends old mid answer × SendsAll mid new answers

-- each of them to each of those that are named
abbrev pub all_sent : Option SocketAddr → List Recipient → List (List ℕ) → List SocketCall
all_sent sender to [] = []
all_sent sender to (answer ∷ answers) = sent_to_each sender to answer ++ all_sent sender to answers

-- A datagram is received, and then its answers are sent. The calls since then are these: each answer goes to each of those that the
-- words name, once and in their order, where `sender` names the address from which this datagram came. So it matters nothing to whom
-- that word named before, as by a datagram that nothing was answered to
abbrev pub AnswersFollow : Type 0
AnswersFollow =
    (old heard new : UdpFacts) (bytes : List ℕ) (answers : List (List ℕ)) (h : Hears old heard bytes) → SendsAll heard new answers
    → Passes old.calls new.calls (none_came h.before ++ Arrived h.from h.datagram ∷ all_sent (Some h.from) old.to answers)

-- the call sends one of the answers to the sender, where the word `sender` stands among the words, or to an address that another of
-- them names
abbrev pub IsAnswer : SocketAddr → List Recipient → List (List ℕ) → SocketCall → Type 0
IsAnswer from to answers (Sent address bytes) = Contains answers bytes × (((address ≡ from) × Contains to recipient.Sender) ⊎ Contains to (recipient.At address))
IsAnswer from to answers (Arrived source bytes) = ⊥
IsAnswer from to answers NoneCame = ⊥

-- answers go to nobody else
abbrev pub NothingElseIsSent : Type 0
NothingElseIsSent = (from : SocketAddr) (to : List Recipient) (answers : List (List ℕ)) → All (IsAnswer from to answers) (all_sent (Some from) to answers)

-- and each goes to the sender, where the word `sender` stands among the words, and to each address that another of them names
abbrev pub EachIsSent : Type 0
EachIsSent =
    (from : SocketAddr) (to : List Recipient) (answers : List (List ℕ)) (answer : List ℕ) → Contains answers answer
    → (Contains to recipient.Sender → Contains (all_sent (Some from) to answers) (Sent from answer)) × ((address : SocketAddr) → Contains to (recipient.At address) → Contains (all_sent (Some from) to answers) (Sent address answer))
