-- What is sent is backed by what was kept before.
use Rattle.std.proofs.Common.{◌≡◌, ℕ, inl, inr, Bool, true, false, cond, ◌||◌, List, [], ◌∷◌, ◌++◌, Option, Some, None, refl, sym, subst, append_assoc, append-nil, arith}
use Rattle.std.specs.Prelude.{Ok, is_some, nat_le}
use Rattle.std.specs.List.{AllByRecursion}
use Rattle.std.specs.declared.net.socket_addr.SocketAddr.{SocketAddr}
use Rattle.std.proofs.lemmas.List.Elements.{Contains-append_left}
use Rattle.arbiter_core.specs.Answering.{request_of}
use Rattle.arbiter_core.specs.Recording.{Recorded, move_count}
use Rattle.arbiter_core.specs.Views.{View, spelled_as}
use Rattle.move_msg.proofs.HeardLaws.{one_message}
use Rattle.move_msg.specs.Messages.{SpellsMessage, message_text}
use Rattle.move_msg.specs.Numbers.{most_moves, most_wanted}
use Rattle.move_msg.specs.Records.{SpellsRecord}
use Rattle.move_msg.specs.declared.message.Message.{Message}
use Rattle.move_msg.specs.declared.message.Message.TheVariants.{Move, Ack, Verdict, Fetch}
use Rattle.move_msg.specs.declared.stamp.Stamp.{Stamp}
use Rattle.system_io.specs.Recipients.{address_named}
use Rattle.system_io.specs.declared.recipient.Recipient.{Recipient}
use Rattle.timeline.specs.Events.{Event, Committed, Found, Put, RecordSought, Sent, sent_to, sent_to_each}
use Rattle.game_server.specs.Backed.{EachEarned, HasMoves, HasVerdict, IsBacked, IsEarned}
use Rattle.game_folder.specs.Places.{Held, InFile, InStore, KeptAt, Places, WasKept, WasPut, kept_by}
use Rattle.game_server.specs.Sending.{Address, IsRequestSpelled, message_sent, request, request_sent, sent}
use Rattle.game_server.proofs.Saying.{AllSay, Says}

-- ---- what came before stays

pub was_put_later : (path : List ℕ) (before more : List Event) (bytes : List ℕ) → WasPut path before bytes → WasPut path (before ++ more) bytes
was_put_later path before more bytes h = elim h [
  | inl put ↦ inl (Contains-append_left before more (Put path bytes true) put)
  | inr found ↦ inr (Contains-append_left before more (Found path (Ok (Some bytes))) found)
]

pub was_kept_later : (at : KeptAt) (before more : List Event) (stamp bytes : List ℕ) → WasKept at before stamp bytes → WasKept at (before ++ more) stamp bytes
was_kept_later (InFile path) before more stamp bytes h = was_put_later path before more bytes h
was_kept_later (InStore path) before more stamp bytes h = elim h [
  | inl put ↦ inl (record { records = put.records; its = put.its; done = Contains-append_left before more (Committed path put.records true) put.done; among = put.among; bytes_are = put.bytes_are })
  | inr found ↦ inr (Contains-append_left before more (RecordSought path stamp (Some bytes)) found)
]

pub each_join : (places : Places) (before xs ys : List Event) → EachEarned places before xs → EachEarned places (before ++ xs) ys → EachEarned places before (xs ++ ys)
each_join places before [] ys p q = subst (λ (b : List Event). EachEarned places b ys) (append-nil before) q
each_join places before (e ∷ es) ys p q = (p.0, each_join places (before ++ e ∷ []) es ys p.1 (subst (λ (b : List Event). EachEarned places b ys) (sym (append_assoc before (e ∷ []) es)) q))

-- ---- messages

-- what is recorded of the game with this stamp is held
abbrev pub HoldsRecord : Held → Stamp → Recorded → Type 0
HoldsRecord held stamp r = (bytes : List ℕ) × (delay : ℕ) × held stamp bytes × SpellsRecord bytes (spelled_as stamp delay r)

abbrev pub IsHeld : Places → List Event → Stamp → Recorded → Type 0
IsHeld places before stamp r = HoldsRecord (kept_by places before) stamp r

pub held_later : (places : Places) (before more : List Event) (stamp : Stamp) (r : Recorded) → IsHeld places before stamp r → IsHeld places (before ++ more) stamp r
held_later places before more stamp r h = (h.0, h.1, was_kept_later (places stamp) before more stamp h.0 h.2, h.3)

pub backed : (held : Held) (stamp : Stamp) (r : Recorded) (m : Message) → HoldsRecord held stamp r → Says stamp r m → IsBacked held m
backed held stamp r (Move s sender number m) h says = tt
backed held stamp r (Ack s who count) h says =
    let is = says.1 in
    let has : HasMoves held stamp count = (h.0, spelled_as stamp h.1 r, h.2, h.3, refl, omega arith) in
    subst (λ (x : Stamp). HasMoves held x count) (sym says.0) has
backed held stamp r (Verdict s who ply v) h says =
    let has : HasVerdict held stamp ply v = (h.0, spelled_as stamp h.1 r, h.2, h.3, refl, sym says.2, says.1) in
    subst (λ (x : Stamp). HasVerdict held x ply v) (sym says.0) has
backed held stamp r (Fetch s who number wanted) h says = tt

-- where more is held, it stays backed
pub backed_so : (held held' : Held) (m : Message) → ((stamp bytes : List ℕ) → held stamp bytes → held' stamp bytes) → IsBacked held m → IsBacked held' m
backed_so held held' (Move s sender number m) more h = tt
backed_so held held' (Ack s who count) more h = (h.0, h.1, more s h.0 h.2, h.3, h.4, h.5)
backed_so held held' (Verdict s who ply v) more h = (h.0, h.1, more s h.0 h.2, h.3, h.4, h.5, h.6)
backed_so held held' (Fetch s who number wanted) more h = tt

pub backed_later : (places : Places) (before more : List Event) (m : Message) → IsBacked (kept_by places before) m → IsBacked (kept_by places (before ++ more)) m
backed_later places before more m h = backed_so (kept_by places before) (kept_by places (before ++ more)) m (λ s b kept. was_kept_later (places s) before more s b kept) h

module _ (places : Places) (m : Message) (spells : SpellsMessage (message_text m) m) where
  one_earned : (before : List Event) (to : SocketAddr) → IsBacked (kept_by places before) m → IsEarned places before (Sent to (message_text m))
  one_earned before to back to' bytes m' is s =
      let same : message_text m ≡ bytes = cc in
      let one : m ≡ m' = one_message bytes m m' (subst (λ (b : List ℕ). SpellsMessage b m) same spells) s in
      subst (IsBacked (kept_by places before)) one back

  sent_to_earned : (before : List Event) (to : Option SocketAddr) → IsBacked (kept_by places before) m → EachEarned places before (sent_to to (message_text m))
  sent_to_earned before None back = tt
  sent_to_earned before (Some to) back = (one_earned before to back, tt)

  pub each_to_each : (before : List Event) (sender : Option SocketAddr) (to : List Recipient) → IsBacked (kept_by places before) m → EachEarned places before (sent_to_each sender to (message_text m))
  unfolding sent_to_each
  each_to_each before sender [] back = tt
  each_to_each before sender (who ∷ others) back =
      let first : List Event = sent_to (address_named sender who) (message_text m) in
      each_join places before first (sent_to_each sender others (message_text m)) (sent_to_earned before (address_named sender who) back)
      (each_to_each (before ++ first) sender others (backed_later places before first m back))

pub sent_earned : (places : Places) (before : List Event) (stamp : Stamp) (r : Recorded) (to : Address) (ms : List Message) → IsHeld places before stamp r → AllSay stamp r ms → AllByRecursion (λ m. SpellsMessage (message_text m) m) ms → EachEarned places before (sent to ms)
sent_earned places before stamp r to [] held says spells = tt
sent_earned places before stamp r to (m ∷ ms) held says spells =
    let first : List Event = message_sent to m in
    each_join places before first (sent to ms) (each_to_each places m spells.0 before to.sender to.to (backed (kept_by places before) stamp r m held says.0))
    (sent_earned places (before ++ first) stamp r to ms (held_later places before first stamp r held) says.1 spells.1)

-- a request says nothing of a record
request_backed : (places : Places) (before : List Event) (v : View) (m : Message) → request v ≡ Some m → IsBacked (kept_by places before) m
request_backed places before v m is = by_state v.is_down is
  where
    by_may : (may : Bool) → cond may None (Some (Fetch v.me.stamp v.me.who (move_count v.kept) most_wanted)) ≡ Some m → IsBacked (kept_by places before) m
    by_may true e = absurd cc
    by_may false e = let same : Fetch v.me.stamp v.me.who (move_count v.kept) most_wanted ≡ m = cc in subst (IsBacked (kept_by places before)) same tt

    by_state : (down : Bool) → cond down None (request_of v.me v.kept) ≡ Some m → IsBacked (kept_by places before) m
    by_state true e = absurd cc
    by_state false e = by_may (is_some v.kept.verdict || nat_le most_moves (move_count v.kept)) e

if_requested : (places : Places) (before : List Event) (to : Address) (k : Option Message) → ((m : Message) → k ≡ Some m → IsBacked (kept_by places before) m) → IsRequestSpelled k → EachEarned places before (request_sent to k)
if_requested places before to None back spells = tt
if_requested places before to (Some m) back spells = each_to_each places m spells before to.sender to.to (back m refl)

pub request_earned : (places : Places) (before : List Event) (to : Address) (v : View) → IsRequestSpelled (request v) → EachEarned places before (request_sent to (request v))
request_earned places before to v spells = if_requested places before to (request v) (request_backed places before v) spells
