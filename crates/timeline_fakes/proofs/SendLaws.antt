-- Datagrams to one recipient after another.
use Rattle.std.proofs.Common.{◌≡◌, ◌∙◌, ◌++◌, ◌∷◌, ◌+◌, ◌<◌, [], ℕ, List, Option, append-nil, append_assoc, ap, get_or, length, refl, sym, subst, take}
use Rattle.std.proofs.lemmas.List.{take_more}
use Rattle.std.specs.declared.net.socket_addr.SocketAddr.{SocketAddr}
use Rattle.system_io.proofs.HistoryLaws.{Passes-nil, Passes-trans}
use Rattle.system_io.specs.Recipients.{address_named}
use Rattle.system_io.specs.declared.recipient.Recipient.{Recipient}
use Rattle.timeline.specs.Events.{Event, Passes, sent_to, sent_to_each}

pub to_none : (a : Option (List Event)) (sender : Option SocketAddr) (bytes : List ℕ) → Passes a a (sent_to_each sender [] bytes)
unfolding sent_to_each
to_none a sender bytes = Passes-nil a

sent_more : (sender : Option SocketAddr) (to : List Recipient) (who : Recipient) (bytes : List ℕ) → sent_to_each sender (to ++ who ∷ []) bytes ≡ sent_to_each sender to bytes ++ sent_to (address_named sender who) bytes
unfolding sent_to_each
sent_more sender [] who bytes = append-nil (sent_to (address_named sender who) bytes)
sent_more sender (first ∷ others) who bytes =
    let front : List Event = sent_to (address_named sender first) bytes in
    ap (λ (l : List Event). front ++ l) (sent_more sender others who bytes) ∙ sym (append_assoc front (sent_to_each sender others bytes) (sent_to (address_named sender who) bytes))

-- to one more of those to whom it is sent
pub to_one_more : (a b c : Option (List Event)) (sender : Option SocketAddr) (to : List Recipient) (i : ℕ) (who d : Recipient) (bytes : List ℕ) → i < length to → who ≡ get_or to i d
    → Passes a b (sent_to_each sender (take i to) bytes) → Passes b c (sent_to (address_named sender who) bytes) → Passes a c (sent_to_each sender (take (i + 1) to) bytes)
to_one_more a b c sender to i who d bytes some is p q =
    let more : take (i + 1) to ≡ take i to ++ who ∷ [] = take_more to i d some ∙ ap (λ (r : Recipient). take i to ++ r ∷ []) (sym is) in
    subst (λ (x : List Event). Passes a c x) (sym (ap (λ (l : List Recipient). sent_to_each sender l bytes) more ∙ sent_more sender (take i to) who bytes))
    (Passes-trans a b c (sent_to_each sender (take i to) bytes) (sent_to (address_named sender who) bytes) p q)
