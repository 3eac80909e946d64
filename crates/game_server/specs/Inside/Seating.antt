-- One datagram at a server of many games; cited by private clauses alone.
use Rattle.std.specs.Prelude.{◌≡◌, ◌⊎◌, ◌++◌, ◌-◌, ℕ, Bool, true, false, cond, List, ◌∷◌, take, Option, Some, None, Result, Ok, Err, IfOk, option_map}
use Rattle.std.specs.List.{IsDistinct}
use Rattle.std.specs.Map.{keys_of, remove_entry}
use Rattle.std.specs.Str.{bytes_eq}
use Rattle.lru.specs.LruCache.{lru_cache}
use Rattle.arbiter_core.specs.Delivers.{Moment, Told, exchange, moment}
use Rattle.arbiter_server.specs.Games.{IsGameOf, setup_of}
use Rattle.arbiter_server.specs.declared.fault.OpenGameError.{OpenGameError}
use Rattle.arbiter_server.specs.declared.fault.OpenGameError.TheVariants as unopened
use Rattle.arbiter_server.specs.declared.games.GameConfig.{GameConfig}
use Rattle.judge_core.specs.Tables.{Holding}
use Rattle.move_msg.specs.Heard.{heard_in}
use Rattle.move_msg.specs.Messages.{stamp_in}
use Rattle.move_msg.specs.declared.message.Message.{Message}
use Rattle.timeline.specs.Events.{Event}
use Rattle.timeline.specs.Outsides.{AddsSome, Outside}
use Rattle.game_server.specs.Datagrams.{HearsDatagram, IsLeftOpen}
use Rattle.game_folder.specs.Drafts.{DraftView, settled}
use Rattle.game_server.specs.Fates.{Answered, AnswersBy, HasGame, OpensFor, OpensSeat, TakesAndOpens, is_unput}
use Rattle.game_folder.specs.Holdings.{GamesFacts, IsKnown, IsQuiet, SendsNothing, StaysNoted}
use Rattle.game_server.specs.Replies.{AreBacked, IsReply}
use Rattle.game_server.specs.Seats.{AreKnown, IsKnownSeat, IsSeat, SameCommon, common, common_in, in_use, open_at, room, seat_moment, without}
use Rattle.game_folder.specs.declared.games.KeptGame.{KeptGame}
use Rattle.game_server.specs.declared.seat.Answer.{Answer}
use Rattle.game_server.specs.declared.seat.Answer.TheVariants.{Closes, Stays}
use Rattle.game_server.specs.declared.seat.Reply.{Reply}
use Rattle.game_server.specs.declared.seat.Seat.{Seat}
use Rattle.game_server.specs.declared.server.Server.{Server}
use Rattle.game_server.specs.declared.server.Shared.{Shared}

-- ---- a game is looked for

-- what comes of it: a game with this stamp, or why there is none
abbrev pub IsLookUp : {G : Type 0} → GamesFacts G → G → List ℕ → List ℕ → Result GameConfig OpenGameError → List Event → Type 0
IsLookUp facts g manifest stamp (Ok game) events = facts.finds (facts.place g) stamp (Ok game) events × IsGameOf manifest stamp game.name.items game.start game.delay
IsLookUp facts g manifest stamp (Err why) events =
    facts.finds (facts.place g) stamp (Err why) events
    ⊎ ((game : GameConfig) × facts.finds (facts.place g) stamp (Ok game) events × (IsGameOf manifest stamp game.name.items game.start game.delay → ⊥) × (why ≡ unopened.OtherGame))

pub record LooksUp {G : Type 0} (facts : GamesFacts G) (g : G) (manifest stamp : List ℕ) (result : Result GameConfig OpenGameError) (events : List Event) : Type 0 where
  pub quiet : SendsNothing events
  pub is : IsLookUp facts g manifest stamp result events

-- ---- a game is opened over its record

abbrev pub seated_as : {F : Type 0} → Holding → Result (Seat F) OpenGameError → Result (Moment DraftView) OpenGameError
seated_as set (Ok seat) = Ok (seat_moment set seat)
seated_as set (Err why) = Err why

-- what is known of what it kept is known of the game that is open
abbrev pub KnowsSeat : {G F : Type 0} → GamesFacts G → G → G → List ℕ → Option (List ℕ) → List Event → Seat F → Type 0
KnowsSeat facts old new stamp kept events seat = (before : List Event) → IsKnown facts old before stamp kept → IsKnownSeat facts new (before ++ events) stamp seat

-- what it keeps is known by these events
abbrev pub IsKnownThen : {G F : Type 0} → GamesFacts G → G → List ℕ → List Event → Seat F → Type 0
IsKnownThen facts g stamp events seat = IsKnownSeat facts g events stamp seat

pub record OpensOverKept {T P F K S L G : Type 0} (o : Outside T P F K S L) (facts : GamesFacts G) (old new : Shared G) (kept : KeptGame F) (game : GameConfig) (result : Result (Seat F) OpenGameError) (events : List Event) : Type 0 where
  pub same : SameCommon old new
  pub still : IsQuiet facts old.games new.games events
  pub noted : StaysNoted facts old.games new.games
  pub opens : OpensSeat facts old.games kept.stamp (setup_of (common_in old) game.name.items game.start game.delay) kept.draft events (seated_as old.tables result) new.games
  pub ok : IfOk result (IsSeat o facts new.games old.tables kept.stamp)
  pub knows : IfOk result (KnowsSeat facts old.games new.games kept.stamp kept.draft.kept events)

-- the record of a game that was found is taken, and it is opened over that
pub record OpensTaken {T P F K S L G : Type 0} (o : Outside T P F K S L) (facts : GamesFacts G) (old new : Shared G) (stamp : List ℕ) (game : GameConfig) (result : Result (Seat F) OpenGameError) (events : List Event) : Type 0 where
  pub same : SameCommon old new
  pub still : IsQuiet facts old.games new.games events
  pub noted : StaysNoted facts old.games new.games
  pub opens : TakesAndOpens facts (common_in old) old.games stamp game events (seated_as old.tables result) new.games
  pub ok : IfOk result (IsSeat o facts new.games old.tables stamp)
  pub knows : IfOk result (IsKnownThen facts new.games stamp events)

-- the game of a message is looked for, and opened
pub record OpensForMessage {T P F K S L G : Type 0} (o : Outside T P F K S L) (facts : GamesFacts G) (old new : Shared G) (m : Message) (result : Result (Seat F) OpenGameError) (events : List Event) : Type 0 where
  pub same : SameCommon old new
  pub still : IsQuiet facts old.games new.games events
  pub noted : StaysNoted facts old.games new.games
  pub opens : OpensFor facts (common_in old) old.games m events (seated_as old.tables result) new.games
  pub ok : IfOk result (IsSeat o facts new.games old.tables (stamp_in m))
  pub knows : IfOk result (IsKnownThen facts new.games (stamp_in m) events)

-- ---- a game that is open answers

abbrev pub reply_in : Answer → Reply
reply_in (Stays reply) = reply
reply_in (Closes reply) = reply

-- it is to be closed
abbrev pub closes : Answer → Bool
closes (Stays reply) = false
closes (Closes reply) = true

pub record DeliversTo {T P F K S L G : Type 0} (o : Outside T P F K S L) (facts : GamesFacts G) (old new : Shared G) (seat seat' : Seat F) (m : Message) (result : Answer) (events : List Event) : Type 0 where
  pub same : SameCommon old new
  pub still : IsQuiet facts old.games new.games events
  pub noted : StaysNoted facts old.games new.games
  pub told : Told
  pub after : Moment DraftView
  pub is_kept : Bool
  pub answers : AnswersBy facts old.games (stamp_in m) (seat_moment old.tables seat) m told after is_kept events new.games
  pub left : seat_moment old.tables seat' ≡ moment after.arbiter (settled after.keeper)
  pub reply : (datagram : List ℕ) → IsReply (reply_in result) (Answered (stamp_in m) (exchange datagram told after) is_kept)
  pub closed : closes result ≡ is_unput after.keeper.to_put is_kept told
  pub seated : closes result ≡ false → IsSeat o facts new.games old.tables (stamp_in m) seat'
  pub backed : (before : List Event) → IsKnownSeat facts old.games before (stamp_in m) seat → AreBacked facts new.games (before ++ events) (reply_in result).outputs.items
  pub knows : (before : List Event) → IsKnownSeat facts old.games before (stamp_in m) seat → closes result ≡ false → IsKnownSeat facts new.games (before ++ events) (stamp_in m) seat'

-- ---- the game of a message

-- the entries of games that are open where one is used: it is the first
abbrev pub used_first : {F : Type 0} → List ℕ → Seat F → List (List ℕ × Seat F) → List (List ℕ × Seat F)
used_first stamp seat entries = (stamp, seat) ∷ remove_entry (bytes_eq stamp) entries

-- a game of this server is open now: it was, or it was opened by these events; others may have been closed for want of room
pub record IsOpenFor {T P F K S L G : Type 0} (o : Outside T P F K S L) (facts : GamesFacts G) (old new : Server G F) (m : Message) (events : List Event) : Type 0 where
  pub seat : Seat F
  pub there : open_at new (stamp_in m) ≡ Some seat
  pub has : HasGame facts (common old) old.shared.games m (option_map (seat_moment old.shared.tables) (open_at old (stamp_in m))) events (seat_moment old.shared.tables seat) new.shared.games
  pub seated : IsSeat o facts new.shared.games old.shared.tables (stamp_in m) seat
  pub knows : (before : List Event) → AreKnown facts old before → IsKnownSeat facts new.shared.games (before ++ events) (stamp_in m) seat
  pub others : (other : List ℕ) → bytes_eq (stamp_in m) other ≡ false → IsLeftOpen (open_at old other) (open_at new other)
  pub used : without (stamp_in m) (in_use new) ≡ take (room old - 1) (without (stamp_in m) (in_use old))

-- or it isn't, for this reason; no other was used
pub record IsNotOpenFor {G F : Type 0} (facts : GamesFacts G) (old new : Server G F) (m : Message) (why : OpenGameError) (events : List Event) : Type 0 where
  pub none : open_at old (stamp_in m) ≡ None
  pub opens : OpensFor facts (common old) old.shared.games m events (Err why) new.shared.games
  pub seats : new.seats ≡ old.seats

abbrev pub IsOpenOrNot : {T P F K S L G : Type 0} → Outside T P F K S L → GamesFacts G → Server G F → Server G F → Message → Result (Unit {0}) OpenGameError → List Event → Type 0
IsOpenOrNot o facts old new m (Ok x) events = IsOpenFor o facts old new m events
IsOpenOrNot o facts old new m (Err why) events = IsNotOpenFor facts old new m why events

-- the game of a message is opened where it isn't open
pub record Brings {T P F K S L G : Type 0} (o : Outside T P F K S L) (facts : GamesFacts G) (old new : Server G F) (m : Message) (result : Result (Unit {0}) OpenGameError) (events : List Event) : Type 0 where
  pub same : SameCommon old.shared new.shared
  pub still : IsQuiet facts old.shared.games new.shared.games events
  pub noted : StaysNoted facts old.shared.games new.shared.games
  pub room_is : room new ≡ room old
  pub is : IsOpenOrNot o facts old new m result events

-- the arbiter of a game that is open answers a message, and the game is the one used latest
pub record AnswersAt {T P F K S L G : Type 0} (o : Outside T P F K S L) (facts : GamesFacts G) (old new : Server G F) (m : Message) (result : Answer) (events : List Event) : Type 0 where
  pub seat : Seat F
  pub left : Seat F
  pub there : open_at old (stamp_in m) ≡ Some seat
  pub delivers : DeliversTo o facts old.shared new.shared seat left m result events
  pub entries : new.seats ≡ lru_cache (used_first (stamp_in m) left old.seats.entries) (room old)
  pub apart : IsDistinct bytes_eq (keys_of old.seats.entries)

-- what it keeps is known, where what it kept was before these events
abbrev pub IsKnownStill : {G F : Type 0} → GamesFacts G → G → G → List ℕ → Seat F → List Event → Seat F → Type 0
IsKnownStill facts g g' stamp seat events now = (before : List Event) → IsKnownSeat facts g before stamp seat → IsKnownSeat facts g' (before ++ events) stamp now

-- a game that answered is closed, or it is open where its arbiter is left: then it can answer, and keeps what is known
abbrev pub IsSeatedNow : {T P F K S L G : Type 0} → Outside T P F K S L → GamesFacts G → G → G → Holding → List ℕ → Seat F → Moment DraftView → List Event → Bool → Option (Seat F) → Type 0
IsSeatedNow o facts g g' set stamp seat left events true now = now ≡ None
IsSeatedNow o facts g g' set stamp seat left events false None = ⊥
IsSeatedNow o facts g g' set stamp seat left events false (Some now) = IsSeat o facts g' set stamp now × (seat_moment set now ≡ left) × IsKnownStill facts g g' stamp seat events now

-- the arbiter of a game that is open answers a message; the game stays open, or is closed where its record wasn't kept
pub record AnswersFrom {T P F K S L G : Type 0} (o : Outside T P F K S L) (facts : GamesFacts G) (old new : Server G F) (m : Message) (reply : Reply) (events : List Event) : Type 0 where
  pub same : SameCommon old.shared new.shared
  pub still : IsQuiet facts old.shared.games new.shared.games events
  pub noted : StaysNoted facts old.shared.games new.shared.games
  pub room_is : room new ≡ room old
  pub seat : Seat F
  pub there : open_at old (stamp_in m) ≡ Some seat
  pub told : Told
  pub after : Moment DraftView
  pub is_kept : Bool
  pub answers : AnswersBy facts old.shared.games (stamp_in m) (seat_moment old.shared.tables seat) m told after is_kept events new.shared.games
  pub is : (datagram : List ℕ) → IsReply reply (Answered (stamp_in m) (exchange datagram told after) is_kept)
  pub own : IsSeatedNow o facts old.shared.games new.shared.games old.shared.tables (stamp_in m) seat (moment after.arbiter (settled after.keeper)) events (is_unput after.keeper.to_put is_kept told) (open_at new (stamp_in m))
  pub others : (other : List ℕ) → bytes_eq (stamp_in m) other ≡ false → open_at new other ≡ open_at old other
  pub used : in_use new ≡ cond (is_unput after.keeper.to_put is_kept told) (without (stamp_in m) (in_use old)) (stamp_in m ∷ without (stamp_in m) (in_use old))
  pub backed : (before : List Event) → IsKnownSeat facts old.shared.games before (stamp_in m) seat → AreBacked facts new.shared.games (before ++ events) reply.outputs.items

-- a message is answered, whichever datagram it was read from
abbrev pub AnswersMessage : {T P F K S L G : Type 0} → Outside T P F K S L → GamesFacts G → Server G F → Server G F → Message → Reply → List Event → Type 0
AnswersMessage o facts old new m reply events = (datagram : List ℕ) → heard_in datagram ≡ Ok m → HearsDatagram o facts old new datagram reply events

-- ---- over a timeline

abbrev pub OpensOverIn : {T P F K S L G : Type 0} → Outside T P F K S L → GamesFacts G → Shared G → Shared G → KeptGame F → GameConfig → T → T → Result (Seat F) OpenGameError → Type 0
OpensOverIn o facts old new kept game t t' result = AddsSome o t t' (OpensOverKept o facts old new kept game result)

abbrev pub OpensTakenIn : {T P F K S L G : Type 0} → Outside T P F K S L → GamesFacts G → Shared G → Shared G → List ℕ → GameConfig → T → T → Result (Seat F) OpenGameError → Type 0
OpensTakenIn o facts old new stamp game t t' result = AddsSome o t t' (OpensTaken o facts old new stamp game result)

abbrev pub OpensForIn : {T P F K S L G : Type 0} → Outside T P F K S L → GamesFacts G → Shared G → Shared G → Message → T → T → Result (Seat F) OpenGameError → Type 0
OpensForIn o facts old new m t t' result = AddsSome o t t' (OpensForMessage o facts old new m result)

abbrev pub DeliversIn : {T P F K S L G : Type 0} → Outside T P F K S L → GamesFacts G → Shared G → Shared G → Seat F → Seat F → Message → T → T → Answer → Type 0
DeliversIn o facts old new seat seat' m t t' result = AddsSome o t t' (DeliversTo o facts old new seat seat' m result)

abbrev pub BringsIn : {T P F K S L G : Type 0} → Outside T P F K S L → GamesFacts G → Server G F → Server G F → Message → T → T → Result (Unit {0}) OpenGameError → Type 0
BringsIn o facts old new m t t' result = AddsSome o t t' (Brings o facts old new m result)

abbrev pub AnswersAtIn : {T P F K S L G : Type 0} → Outside T P F K S L → GamesFacts G → Server G F → Server G F → Message → T → T → Answer → Type 0
AnswersAtIn o facts old new m t t' result = AddsSome o t t' (AnswersAt o facts old new m result)

abbrev pub AnswersFromIn : {T P F K S L G : Type 0} → Outside T P F K S L → GamesFacts G → Server G F → Server G F → Message → T → T → Reply → Type 0
AnswersFromIn o facts old new m t t' reply = AddsSome o t t' (AnswersFrom o facts old new m reply)

abbrev pub AnswersMessageIn : {T P F K S L G : Type 0} → Outside T P F K S L → GamesFacts G → Server G F → Server G F → Message → T → T → Reply → Type 0
AnswersMessageIn o facts old new m t t' reply = AddsSome o t t' (AnswersMessage o facts old new m reply)
