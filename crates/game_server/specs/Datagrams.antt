-- One datagram at a server of many games (this project's own).
use Rattle.std.specs.Prelude.{◌≡◌, ◌⊎◌, ◌++◌, ◌-◌, ℕ, false, cond, List, ◌∷◌, take, Option, None, Result, Ok, Err, option_map}
use Rattle.std.specs.Str.{bytes_eq}
use Rattle.arbiter_core.specs.Delivers.{Moment}
use Rattle.move_msg.specs.Heard.{heard_in}
use Rattle.move_msg.specs.Messages.{stamp_in}
use Rattle.move_msg.specs.declared.message.Message.{Message}
use Rattle.move_msg.specs.declared.message.MessageFault.{MessageFault}
use Rattle.timeline.specs.Events.{Event}
use Rattle.timeline.specs.Outsides.{AddsSome, Outside}
use Rattle.game_folder.specs.Drafts.{DraftView}
use Rattle.game_server.specs.Fates.{Answered, Fate, GoesTo, Unopened, Unread, fate_leaves, is_lost_at}
use Rattle.game_folder.specs.Holdings.{GamesFacts, IsQuiet, StaysNoted}
use Rattle.game_server.specs.Seats.{AreKnown, AreSeats, common, in_use, open_at, room, seat_moment, without}
use Rattle.game_server.specs.declared.seat.Reply.{Reply}
use Rattle.game_server.specs.declared.server.Server.{Server}
use Rattle.game_server.specs.Replies.{AreBacked, IsReply}

-- it is as it was, or closed
abbrev pub IsLeftOpen : {S : Type 0} → Option S → Option S → Type 0
IsLeftOpen wanted now = (now ≡ wanted) ⊎ (now ≡ None)

-- the game that a message is of, if it is open
abbrev pub was_open : {G F : Type 0} → Server G F → Result Message MessageFault → Option (Moment DraftView)
was_open server (Ok m) = option_map (seat_moment server.shared.tables) (open_at server (stamp_in m))
was_open server (Err fault) = None

-- the datagram is of a message of another game, or of none
abbrev pub IsNotOf : List ℕ → Result Message MessageFault → Type 0
IsNotOf stamp (Ok m) = bytes_eq (stamp_in m) stamp ≡ false
IsNotOf stamp (Err fault) = Unit {0}

-- which games are open behind a datagram, the one used latest first: that which answered, unless its record wasn't kept; and of the others so
-- many as there is room for
abbrev pub used_by : ℕ → Fate → List (List ℕ) → List (List ℕ)
used_by room (Unread fault) used = used
used_by room (Unopened stamp why) used = used
used_by room (Answered stamp e is_kept) used =
    let others = take (room - 1) (without stamp used) in
    cond (is_lost_at e is_kept) others (stamp ∷ others)

-- A datagram is answered, but nothing is sent yet: it has a fate, and the reply is of that. Its game is where the answer leaves it; another one
-- is as it was, or closed for want of room, where it is the one used least recently. Each game that is open can answer, and keeps what is
-- known; and so is what the messages of the reply say of records.
pub record HearsDatagram {T P F K S L G : Type 0} (o : Outside T P F K S L) (facts : GamesFacts G) (old new : Server G F) (datagram : List ℕ) (reply : Reply) (events : List Event) : Type 0 where
  pub config : new.shared.config ≡ old.shared.config
  pub tables : new.shared.tables ≡ old.shared.tables
  pub still : IsQuiet facts old.shared.games new.shared.games events
  pub noted : StaysNoted facts old.shared.games new.shared.games
  pub fate : Fate
  pub goes : GoesTo facts (common old) old.shared.games datagram (was_open old (heard_in datagram)) events fate new.shared.games
  pub is : IsReply reply fate
  pub own : was_open new (heard_in datagram) ≡ fate_leaves fate
  pub used : in_use new ≡ used_by (room old) fate (in_use old)
  pub room_is : room new ≡ room old
  pub others : (other : List ℕ) → IsNotOf other (heard_in datagram) → IsLeftOpen (open_at old other) (open_at new other)
  pub seats : AreSeats o facts new
  pub backed : (before : List Event) → AreKnown facts old before → AreBacked facts new.shared.games (before ++ events) reply.outputs.items
  pub knows : (before : List Event) → AreKnown facts old before → AreKnown facts new (before ++ events)

-- so it is from one moment to another
abbrev pub HearsIn : {T P F K S L G : Type 0} → Outside T P F K S L → GamesFacts G → Server G F → Server G F → List ℕ → T → T → Reply → Type 0
HearsIn o facts old new datagram t t' reply = AddsSome o t t' (HearsDatagram o facts old new datagram reply)
