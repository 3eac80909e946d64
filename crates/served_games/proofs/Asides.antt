-- Events that change nothing of what a start may find of a game.
use Rattle.std.proofs.Common.{◌≡◌, ◌⊎◌, inl, inr, ◌∙◌, ℕ, Bool, true, false, List, [], ◌∷◌, ◌++◌, Option, Some, None, refl, sym, ap, subst}
use Rattle.std.specs.Prelude.{Result, Ok, Err}
use Rattle.std.specs.List.{AllByRecursion, flat_map}
use Rattle.std.specs.Str.{bytes_eq}
use Rattle.std.specs.declared.net.socket_addr.SocketAddr.{SocketAddr}
use Rattle.arbiter_core.specs.Delivers.{Moment, Told}
use Rattle.arbiter_server.specs.Games.{CommonView, setup_of}
use Rattle.arbiter_server.specs.declared.fault.OpenGameError.{OpenGameError}
use Rattle.arbiter_server.specs.declared.fault.OpenGameError.TheVariants as why_not
use Rattle.arbiter_server.specs.declared.fault.Uncommitted.{Uncommitted}
use Rattle.arbiter_server.specs.declared.games.GameConfig.{GameConfig}
use Rattle.arbiter_server.specs.declared.line.Line.{Line}
use Rattle.arbiter_server.specs.Told.{line_words}
use Rattle.move_msg.specs.Heard.{heard_in}
use Rattle.move_msg.specs.Messages.{message_text, stamp_in}
use Rattle.move_msg.specs.TextLines.{ended}
use Rattle.move_msg.specs.declared.message.Message.{Message}
use Rattle.move_msg.specs.declared.message.MessageFault.{MessageFault}
use Rattle.system_io.specs.Recipients.{address_named}
use Rattle.system_io.specs.declared.recipient.Recipient.{Recipient}
use Rattle.timeline.specs.Events.{Came, Event, Flushed, Missed, Quiet, Refused, Sent, Wrote, sent_to, sent_to_each}
use Rattle.game_folder.specs.Drafts.{DraftView}
use Rattle.game_folder.specs.Holdings.{GamesFacts}
use Rattle.game_folder.specs.Places.{InFile, InStore, KeptAt}
use Rattle.game_server.specs.Datagrams.{IsNotOf}
use Rattle.game_server.specs.Fates.{Fate, GoesTo, HasGame, IsAnswered, IsFound, IsOther, IsUnopened, IsUnread, KeepsAnswer, KeptIfAny, NotFound, OpensFor, OpensNone, OpensSeat, SeatNotHeld, SeatOpened, SeatRefused, SeatUnkept, TakesAndOpens, TakesNone, TakesOne, fate_leaves, found_draft}
use Rattle.game_server.specs.Printing.{LineForm, TextEnd, WasCut, WasStuck, WentOut, WritesLines, lines_out, text_events, text_out, written_text}
use Rattle.game_server.specs.Rounds.{Heard, IsFull, NoMore, ReceiveFails, RoundEnd, end_events, reply_sent, round_sent}
use Rattle.game_server.specs.Sending.{Address, address, message_sent, sent}
use Rattle.served_games.specs.Durable.{IsToldAt, KeepsAtOnce, MayFind, StaysFound, behind}
use Rattle.served_games.specs.PlaceKeepers.{AtPlace, BehindTake, IsThere}
use Rattle.served_games.proofs.Reaching.{has_there}
use Rattle.served_games.proofs.Finding.{stays_as, stays_join, stays_none}

-- ---- the port and the output

-- an event of the port or the output
abbrev pub IsAside : Event → Type 0
IsAside (Came from bytes) = Unit {0}
IsAside (Quiet nanos) = Unit {0}
IsAside Missed = Unit {0}
IsAside (Sent to bytes) = Unit {0}
IsAside (Wrote to bytes) = Unit {0}
IsAside (Flushed to) = Unit {0}
IsAside (Refused to) = Unit {0}
IsAside e = ⊥

aside_file : (path stamp : List ℕ) (past : List Event) (e : Event) (found : Option (List ℕ)) → IsAside e → MayFind (InFile path) stamp (e ∷ past) found → MayFind (InFile path) stamp past found
aside_file path stamp past (Came from bytes) found a m = m
aside_file path stamp past (Quiet nanos) found a m = m
aside_file path stamp past Missed found a m = m
aside_file path stamp past (Sent to bytes) found a m = m
aside_file path stamp past (Wrote to bytes) found a m = m
aside_file path stamp past (Flushed to) found a m = m
aside_file path stamp past (Refused to) found a m = m
aside_file path stamp past e found a m = absurd a

aside_store : (path stamp : List ℕ) (past : List Event) (e : Event) (found : Option (List ℕ)) → IsAside e → MayFind (InStore path) stamp (e ∷ past) found → MayFind (InStore path) stamp past found
aside_store path stamp past (Came from bytes) found a m = m
aside_store path stamp past (Quiet nanos) found a m = m
aside_store path stamp past Missed found a m = m
aside_store path stamp past (Sent to bytes) found a m = m
aside_store path stamp past (Wrote to bytes) found a m = m
aside_store path stamp past (Flushed to) found a m = m
aside_store path stamp past (Refused to) found a m = m
aside_store path stamp past e found a m = absurd a

pub aside_one : (at : KeptAt) (stamp : List ℕ) (past : List Event) (e : Event) → IsAside e → StaysFound at stamp past (e ∷ [])
aside_one (InFile path) stamp past e a found m = aside_file path stamp past e found a m
aside_one (InStore path) stamp past e a found m = aside_store path stamp past e found a m

pub asides : (at : KeptAt) (stamp : List ℕ) (past events : List Event) → AllByRecursion IsAside events → StaysFound at stamp past events
asides at stamp past [] a found m = m
asides at stamp past (e ∷ es) a found m = aside_one at stamp past e a.0 found (asides at stamp (e ∷ past) es a.1 found m)

aside_join : (xs ys : List Event) → AllByRecursion IsAside xs → AllByRecursion IsAside ys → AllByRecursion IsAside (xs ++ ys)
aside_join [] ys p q = q
aside_join (x ∷ xs) ys p q = (p.0, aside_join xs ys p.1 q)

sent_to_aside : (to : Option SocketAddr) (bytes : List ℕ) → AllByRecursion IsAside (sent_to to bytes)
sent_to_aside None bytes = tt
sent_to_aside (Some to) bytes = (tt, tt)

each_aside : (sender : Option SocketAddr) (to : List Recipient) (bytes : List ℕ) → AllByRecursion IsAside (sent_to_each sender to bytes)
unfolding sent_to_each
each_aside sender [] bytes = tt
each_aside sender (who ∷ others) bytes = aside_join (sent_to (address_named sender who) bytes) (sent_to_each sender others bytes) (sent_to_aside (address_named sender who) bytes) (each_aside sender others bytes)

sent_aside : (to : Address) (messages : List Message) → AllByRecursion IsAside (sent to messages)
sent_aside to [] = tt
sent_aside to (m ∷ ms) = aside_join (message_sent to m) (sent to ms) (each_aside to.sender to.to (message_text m)) (sent_aside to ms)

replies_aside : (to : List Recipient) (heard : List Heard) → AllByRecursion IsAside (flat_map (reply_sent to) heard)
replies_aside to [] = tt
replies_aside to (h ∷ hs) = aside_join (reply_sent to h) (flat_map (reply_sent to) hs) (sent_aside (address h.from to) h.reply.outputs.items) (replies_aside to hs)

pub round_aside : (to : List Recipient) (heard : List Heard) (committed : Result (Unit {0}) Uncommitted) → AllByRecursion IsAside (round_sent to heard committed)
round_aside to heard (Ok x) = replies_aside to heard
round_aside to heard (Err why) = tt

pub end_aside : (end : RoundEnd) → AllByRecursion IsAside (end_events end)
end_aside IsFull = tt
end_aside NoMore = (tt, tt)
end_aside ReceiveFails = (tt, tt)

text_aside : (text : List ℕ) (end : TextEnd) → AllByRecursion IsAside (text_events text end)
text_aside text WentOut = (tt, (tt, tt))
text_aside text (WasCut count) = (tt, (tt, tt))
text_aside text WasStuck = (tt, (tt, tt))

text_out_aside : (text : Option (List ℕ)) → AllByRecursion IsAside (text_out text)
text_out_aside None = tt
text_out_aside (Some text) = text_aside text WentOut

lines_out_aside : (form : LineForm) (texts : List (List ℕ)) (lines : List Line) → AllByRecursion IsAside (lines_out form texts lines)
lines_out_aside form texts [] = tt
lines_out_aside form texts (l ∷ ls) =
    aside_join (text_out (written_text form texts l)) (lines_out form (ended (line_words l) ∷ texts) ls) (text_out_aside (written_text form texts l)) (lines_out_aside form (ended (line_words l) ∷ texts) ls)

pub lines_aside : (form : LineForm) (texts : List (List ℕ)) (lines : List Line) (is_out : Bool) (events : List Event) → WritesLines form texts lines is_out events → AllByRecursion IsAside events
lines_aside form texts lines true events w = subst (AllByRecursion IsAside) (sym w) (lines_out_aside form texts lines)
lines_aside form texts lines false events w = subst (AllByRecursion IsAside) (sym w.events_are) (aside_join (lines_out form texts w.first) (text_events w.text w.end) (lines_out_aside form texts w.first) (text_aside w.text w.end))

-- ---- another game's datagram

module _ {G : Type 0} (facts : GamesFacts G) (at_once : KeepsAtOnce facts) (t : CommonView) (g : G) (stamp : List ℕ) (mine : IsToldAt facts (facts.place g) stamp) where
  abbrev place : facts.Place
  place = facts.place g

  abbrev at : KeptAt
  at = facts.places place stamp

  module _ (other : List ℕ) (apart : bytes_eq other stamp ≡ false) (its : IsToldAt facts place other) where
    if_any_stays : (old new : G) → IsThere facts place old → (past : List Event) (to_put : Option (List ℕ)) (events : List Event) → KeptIfAny facts old other to_put events new → StaysFound at stamp past events
    if_any_stays old new there past None events h = stays_none at stamp past events h.0
    if_any_stays old new there past (Some bytes) events h = at_once.keeps_apart place old new there stamp other bytes mine its apart true events past h

    answer_stays : (old new : G) → IsThere facts place old → (past : List Event) (told : Told) (to_put : Option (List ℕ)) (is_kept : Bool) (events : List Event) → KeepsAnswer facts old other told to_put is_kept events new → StaysFound at stamp past events
    answer_stays old new there past (Err fault) to_put is_kept events h = stays_none at stamp past events h.0
    answer_stays old new there past (Ok outputs) None is_kept events h = stays_none at stamp past events h.0
    answer_stays old new there past (Ok outputs) (Some bytes) is_kept events h = at_once.keeps_apart place old new there stamp other bytes mine its apart is_kept events past h

    seat_stays : (old new : G) → IsThere facts place old → (past : List Event) (game : GameConfig) (draft : DraftView) (events : List Event) (told : Result (Moment DraftView) OpenGameError) → OpensSeat facts old other (setup_of t game.name.items game.start game.delay) draft events told new → StaysFound at stamp past events
    seat_stays old new there past game draft events told (SeatRefused after fault h none same is) = stays_none at stamp past events none
    seat_stays old new there past game draft events told (SeatUnkept after v bytes h put keeps is) = at_once.keeps_apart place old new there stamp other bytes mine its apart false events past keeps
    seat_stays old new there past game draft events told (SeatNotHeld after v h kept is) = if_any_stays old new there past after.to_put events kept
    seat_stays old new there past game draft events told (SeatOpened after v h kept is) = if_any_stays old new there past after.to_put events kept

    taking_stays : (new : G) (past : List Event) (game : GameConfig) (events : List Event) (told : Result (Moment DraftView) OpenGameError) → TakesAndOpens facts t g other game events told new → StaysFound at stamp past events
    taking_stays new past game events told (TakesNone why takes is) = at_once.takes_apart place g new (AtPlace refl) stamp other mine its apart (Err why) events past takes
    taking_stays new past game events told (TakesOne taken put got mid takes seat are) =
        stays_as at stamp past events (taken ++ put) are
        (stays_join at stamp past taken put (at_once.takes_apart place g mid (AtPlace refl) stamp other mine its apart (Ok got) taken past takes) (seat_stays mid new (BehindTake g other (Ok got) taken (AtPlace refl) takes) (behind past taken) game (found_draft got) put told seat))

  opens_stays : (m : Message) → bytes_eq (stamp_in m) stamp ≡ false → (past events : List Event) (told : Result (Moment DraftView) OpenGameError) (new : G) → OpensFor facts t g m events told new → StaysFound at stamp past events
  opens_stays m apart past events told new (OpensNone opens none same is) = stays_none at stamp past events none
  opens_stays m apart past events told new (NotFound why opens finds same is) = at_once.finds place stamp (stamp_in m) (Err why) events past finds
  opens_stays m apart past events told new (IsOther game opens finds not same is) = at_once.finds place stamp (stamp_in m) (Ok game) events past finds
  opens_stays m apart past events told new (IsFound game looked rest opens finds game_is takes are) =
      stays_as at stamp past events (looked ++ rest) are
      (stays_join at stamp past looked rest (at_once.finds place stamp (stamp_in m) (Ok game) looked past finds) (taking_stays (stamp_in m) apart (record { game = game; events = looked; finds = finds; manifest = t.manifest; is = game_is }) new (behind past looked) game rest told takes))

  has_stays : (m : Message) → bytes_eq (stamp_in m) stamp ≡ false → (past events : List Event) (was : Option (Moment DraftView)) (now : Moment DraftView) (new : G) → HasGame facts t g m was events now new → StaysFound at stamp past events
  has_stays m apart past events (Some x) now new h = stays_none at stamp past events h.1
  has_stays m apart past events None now new h = opens_stays m apart past events (Ok now) new h

-- ---- a game that answers is found

module _ {G : Type 0} (facts : GamesFacts G) (t : CommonView) (g : G) where
  opened_told : (m : Message) (events : List Event) (now : Moment DraftView) (new : G) → OpensFor facts t g m events (Ok now) new → IsToldAt facts (facts.place g) (stamp_in m)
  opened_told m events now new (OpensNone opens none same is) = absurd (let f : ◌≡◌ {A = Result (Moment DraftView) OpenGameError} (Ok now) (Err why_not.NotOpen) = is in cc)
  opened_told m events now new (NotFound why opens finds same is) = absurd (let f : ◌≡◌ {A = Result (Moment DraftView) OpenGameError} (Ok now) (Err why) = is in cc)
  opened_told m events now new (IsOther game opens finds not same is) = absurd (let f : ◌≡◌ {A = Result (Moment DraftView) OpenGameError} (Ok now) (Err why_not.OtherGame) = is in cc)
  opened_told m events now new (IsFound game looked rest opens finds game_is takes are) = record { game = game; events = looked; finds = finds; manifest = t.manifest; is = game_is }

  -- where it was open, it was found before
  abbrev pub WasTold : Message → Option (Moment DraftView) → Type 0
  WasTold m was = (x : Moment DraftView) → was ≡ Some x → IsToldAt facts (facts.place g) (stamp_in m)

  has_told : (m : Message) (was : Option (Moment DraftView)) (events : List Event) (now : Moment DraftView) (new : G) → WasTold m was → HasGame facts t g m was events now new → IsToldAt facts (facts.place g) (stamp_in m)
  has_told m (Some x) events now new told h = told x refl
  has_told m None events now new told h = opened_told m events now new h

  pub told_by : (datagram : List ℕ) (m : Message) (was : Option (Moment DraftView)) (events : List Event) (fate : Fate) (new : G) → heard_in datagram ≡ Ok m → WasTold m was → GoesTo facts t g datagram was events fate new → (fate_leaves fate ≡ None) ⊎ IsToldAt facts (facts.place g) (stamp_in m)
  told_by datagram m was events fate new h told (IsUnread fault e none same is) = inl (ap fate_leaves is)
  told_by datagram m was events fate new h told (IsUnopened m' why e none opens is) = inl (ap fate_leaves is)
  told_by datagram m was events fate new h told (IsAnswered m' first rest now after answer is_kept mid e has answers are is) =
      let same : m' ≡ m = let f : ◌≡◌ {A = Result Message MessageFault} (Ok m') (Ok m) = sym e ∙ h in cc in
      inr (has_told m was first now mid told (subst (λ (x : Message). HasGame facts t g x was first now mid) same has))

module _ {G : Type 0} (facts : GamesFacts G) (at_once : KeepsAtOnce facts) (t : CommonView) (g : G) (stamp : List ℕ) (mine : IsToldAt facts (facts.place g) stamp) where
  pub other_stays : (datagram : List ℕ) (was : Option (Moment DraftView)) (events past : List Event) (fate : Fate) (new : G) → IsNotOf stamp (heard_in datagram) → ((m : Message) → heard_in datagram ≡ Ok m → WasTold facts t g m was) → GoesTo facts t g datagram was events fate new → StaysFound (facts.places (facts.place g) stamp) stamp past events
  other_stays datagram was events past fate new not told (IsUnread fault h none same is) = stays_none (facts.places (facts.place g) stamp) stamp past events none
  other_stays datagram was events past fate new not told (IsUnopened m why h none opens is) = opens_stays facts at_once t g stamp mine m (subst (IsNotOf stamp) h not) past events (Err why) new opens
  other_stays datagram was events past fate new not told (IsAnswered m first rest now after answer is_kept mid h has answers are is) =
      let apart : bytes_eq (stamp_in m) stamp ≡ false = subst (IsNotOf stamp) h not in
      let its : IsToldAt facts (facts.place g) (stamp_in m) = has_told facts t g m was first now mid (told m h) has in
      stays_as (facts.places (facts.place g) stamp) stamp past events (first ++ rest) are
      (stays_join (facts.places (facts.place g) stamp) stamp past first rest (has_stays facts at_once t g stamp mine m apart past first was now mid has) (answer_stays facts at_once t g stamp mine (stamp_in m) apart its mid new (has_there facts (facts.place g) t g mid m was first now has (AtPlace refl)) (behind past first) answer after.keeper.to_put is_kept rest answers.kept))
