-- What is heard of what happens, one thing after another.
use Rattle.std.proofs.Common.{◌≡◌, ◌∙◌, ◌++◌, ◌∷◌, [], ℕ, List, Option, Some, None, ap, refl, sym}
use Rattle.std.proofs.lemmas.List.Concat.{flat_map-append}
use Rattle.std.specs.List.{AllByRecursion}
use Rattle.std.specs.declared.net.socket_addr.SocketAddr.{SocketAddr}
use Rattle.system_io.proofs.HistoryLaws.{Passes-nil, Passes-trans}
use Rattle.system_io.specs.Recipients.{address_named}
use Rattle.system_io.specs.declared.recipient.Recipient.{Recipient}
use Rattle.timeline.specs.Events.{Event, Noted, Passes, sent_to, sent_to_each}
use Rattle.source_core.specs.Heard.{Happened, IsHearing, IsNote, Moment, OnlyNotes, heard, heard_in, sender_after, sender_by}

pub all_join : {A : Type 0} (P : A → Type 0) (xs ys : List A) → AllByRecursion P xs → AllByRecursion P ys → AllByRecursion P (xs ++ ys)
all_join P [] ys h k = k
all_join P (x ∷ xs) ys h k = (h.0, all_join P xs ys h.1 k)

-- some of it, and then more
pub heard-append : (xs ys : List Event) → heard (xs ++ ys) ≡ heard xs ++ heard ys
heard-append xs ys = flat_map-append heard_in xs ys

pub after-append : (sender : Option SocketAddr) (xs ys : List Event) → sender_after sender (xs ++ ys) ≡ sender_after (sender_after sender xs) ys
after-append sender [] ys = refl
after-append sender (x ∷ xs) ys = after-append (sender_by sender x) xs ys

-- ---- what isn't heard

-- events by which nothing is heard
record IsSilent (events : List Event) : Type 0 where
  unheard : heard events ≡ []
  same : (sender : Option SocketAddr) → sender_after sender events ≡ sender

silent_both : (xs ys : List Event) → IsSilent xs → IsSilent ys → IsSilent (xs ++ ys)
silent_both xs ys h k = record {
  unheard = heard-append xs ys ∙ ap (λ l. l ++ heard ys) h.unheard ∙ k.unheard;
  same = λ sender. after-append sender xs ys ∙ ap (λ s. sender_after s ys) (h.same sender) ∙ k.same sender;
}

silent_none : IsSilent []
silent_none = record { unheard = refl; same = λ sender. refl }

-- a datagram for a recipient, and for each of them
silent_sent : (address : Option SocketAddr) (bytes : List ℕ) → IsSilent (sent_to address bytes)
silent_sent None bytes = silent_none
silent_sent (Some address) bytes = record { unheard = refl; same = λ sender. refl }

silent_each : (sender : Option SocketAddr) (to : List Recipient) (bytes : List ℕ) → IsSilent (sent_to_each sender to bytes)
unfolding sent_to_each
silent_each sender [] bytes = silent_none
silent_each sender (who ∷ others) bytes = silent_both (sent_to (address_named sender who) bytes) (sent_to_each sender others bytes) (silent_sent (address_named sender who) bytes) (silent_each sender others bytes)

pub sent_unheard : (sender : Option SocketAddr) (to : List Recipient) (bytes : List ℕ) → heard (sent_to_each sender to bytes) ≡ []
sent_unheard sender to bytes = (silent_each sender to bytes).unheard

pub sent_same : (sender : Option SocketAddr) (to : List Recipient) (bytes : List ℕ) → sender_after sender (sent_to_each sender to bytes) ≡ sender
sent_same sender to bytes = (silent_each sender to bytes).same sender

-- notes
silent_note : (event : Event) → IsNote event → IsSilent (event ∷ [])
silent_note (Noted line) h = record { unheard = refl; same = λ sender. refl }
silent_note _ h = absurd h

silent_notes : (events : List Event) → OnlyNotes events → IsSilent events
silent_notes [] h = silent_none
silent_notes (event ∷ events) h = silent_both (event ∷ []) events (silent_note event h.0) (silent_notes events h.1)

pub notes_unheard : (events : List Event) → OnlyNotes events → heard events ≡ []
notes_unheard events h = (silent_notes events h).unheard

pub notes_same : (sender : Option SocketAddr) (events : List Event) → OnlyNotes events → sender_after sender events ≡ sender
notes_same sender events h = (silent_notes events h).same sender

note_hears : (event : Event) → IsNote event → IsHearing event
note_hears (Noted line) h = tt
note_hears _ h = absurd h

pub notes_hear : (events : List Event) → OnlyNotes events → AllByRecursion IsHearing events
notes_hear [] h = tt
notes_hear (event ∷ events) h = (note_hears event h.0, notes_hear events h.1)

-- ---- moments

pub happened_none : (a : Moment) → Happened a a []
happened_none a = record { passes = Passes-nil a.events; to = refl; sender = refl }

pub happened_more : (a b c : Moment) (xs ys : List Event) → Happened a b xs → Happened b c ys → Happened a c (xs ++ ys)
happened_more a b c xs ys p q = record {
  passes = Passes-trans a.events b.events c.events xs ys p.passes q.passes;
  to = q.to ∙ p.to;
  sender = q.sender ∙ ap (λ s. sender_after s ys) p.sender ∙ sym (after-append a.sender xs ys);
}

-- a datagram was sent to each recipient
pub sent_happened : (e0 e1 : Option (List Event)) (to to' : List Recipient) (sender sender' : Option SocketAddr) (bytes : List ℕ) → Passes e0 e1 (sent_to_each sender to bytes) → to' ≡ to → sender' ≡ sender
    → Happened (record { events = e0; to = to; sender = sender }) (record { events = e1; to = to'; sender = sender' }) (sent_to_each sender to bytes)
sent_happened e0 e1 to to' sender sender' bytes passes same_to same = record { passes = passes; to = same_to; sender = same ∙ sym (sent_same sender to bytes) }
