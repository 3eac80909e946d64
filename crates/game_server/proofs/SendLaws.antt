-- What is sent, one message after another.
use Rattle.std.proofs.Common.{◌≡◌, ℕ, ◌+◌, ◌<◌, List, [], ◌∷◌, ◌++◌, sym, ap, subst, ◌∙◌, append-nil, length, take, get_or}
use Rattle.std.specs.List.{AllByRecursion}
use Rattle.std.proofs.lemmas.List.{take_more}
use Rattle.std.proofs.lemmas.List.Concat.{flat_map-append}
use Rattle.move_msg.specs.declared.message.Message.{Message}
use Rattle.timeline.specs.Events.{Event}
use Rattle.timeline.specs.Outsides.{Adds, Outside}
use Rattle.timeline.proofs.EventLaws.{adds_more}
use Rattle.game_server.specs.Sending.{Address, address, message_sent, sent}
use Rattle.game_server.specs.Inside.Running.{all_sent, held_sent}
use Rattle.game_server.specs.declared.replies.Held.{Held}
use Rattle.system_io.specs.declared.recipient.Recipient.{Recipient}

-- one more message was sent
pub sent_more : {T P F K S L : Type 0} (o : Outside T P F K S L) (a b c : T) (to now : Address) (ms : List Message) (i : ℕ) (m : Message) → i < length ms → m ≡ get_or ms i m → now ≡ to → Adds o a b (sent to (take i ms)) → Adds o b c (message_sent now m) → Adds o a c (sent to (take (i + 1) ms))
sent_more o a b c to now ms i m lt is same p q =
    let front : List Event = sent to (take i ms) in
    let joined : sent to (take (i + 1) ms) ≡ front ++ message_sent to m =
    ap (sent to) (take_more ms i m lt ∙ ap (λ (x : Message). take i ms ++ x ∷ []) (sym is)) ∙ flat_map-append (message_sent to) (take i ms) (m ∷ [])
    ∙ ap (λ (l : List Event). front ++ l) (append-nil (message_sent to m)) in
    subst (Adds o a c) (sym joined) (adds_more o a b c front (message_sent to m) p (subst (λ (x : Address). Adds o b c (message_sent x m)) same q))

pub all_join : {X : Type 0} (P : X → Type 0) (xs : List X) (y : X) → AllByRecursion P xs → P y → AllByRecursion P (xs ++ y ∷ [])
all_join P [] y p q = (q, tt)
all_join P (x ∷ xs) y p q = (p.0, all_join P xs y p.1 q)

pub all_more : {X : Type 0} (P : X → Type 0) (xs : List X) (i : ℕ) (x : X) → i < length xs → x ≡ get_or xs i x → AllByRecursion P (take i xs) → P x → AllByRecursion P (take (i + 1) xs)
all_more P xs i x lt is p q = subst (AllByRecursion P) (sym (take_more xs i x lt ∙ ap (λ z. take i xs ++ z ∷ []) (sym is))) (all_join P (take i xs) x p q)

-- one more reply was sent
pub replies_more : {T P F K S L : Type 0} (o : Outside T P F K S L) (a b c : T) (to : List Recipient) (now : Address) (held : List Held) (i : ℕ) (x : Held) → i < length held → x ≡ get_or held i x → now ≡ address x.sender to → Adds o a b (all_sent to (take i held)) → Adds o b c (sent now x.reply.outputs.items)
    → Adds o a c (all_sent to (take (i + 1) held))
replies_more o a b c to now held i x lt is same p q =
    let front : List Event = all_sent to (take i held) in
    let joined : all_sent to (take (i + 1) held) ≡ front ++ held_sent to x =
    ap (all_sent to) (take_more held i x lt ∙ ap (λ (y : Held). take i held ++ y ∷ []) (sym is)) ∙ flat_map-append (held_sent to) (take i held) (x ∷ [])
    ∙ ap (λ (l : List Event). front ++ l) (append-nil (held_sent to x)) in
    subst (Adds o a c) (sym joined) (adds_more o a b c front (held_sent to x) p (subst (λ (y : Address). Adds o b c (sent y x.reply.outputs.items)) same q))
