-- Games that are open, and what is known of what they keep (this project's own).
use Rattle.std.specs.Prelude.{◌≡◌, ℕ, false, cond, List, [], ◌∷◌, Option, Some, None, IfSome}
use Rattle.std.specs.Map.{keys_of}
use Rattle.std.specs.Str.{bytes_eq}
use Rattle.arbiter_core.specs.Delivers.{IsKept, Moment, moment}
use Rattle.arbiter_core.specs.Resting.{CanWake, awake}
use Rattle.arbiter_server.specs.Games.{CommonView, common_with}
use Rattle.arbiter_server.specs.Room.{at_stamp}
use Rattle.judge_core.specs.Tables.{Holding}
use Rattle.timeline.specs.Events.{Event}
use Rattle.timeline.specs.Outsides.{Outside}
use Rattle.game_folder.specs.Drafts.{DraftView}
use Rattle.game_folder.specs.Holdings.{GamesFacts, IsKeptIn, known}
use Rattle.game_server.specs.declared.seat.Seat.{Seat}
use Rattle.game_server.specs.declared.server.Server.{Server}
use Rattle.game_server.specs.declared.server.Shared.{Shared}

-- what all games have in common
abbrev pub common_in : {G : Type 0} → Shared G → CommonView
common_in shared = common_with shared.config shared.tables

abbrev pub common : {G F : Type 0} → Server G F → CommonView
common server = common_in server.shared

-- the arbiter of a game that is open, by these tables, and its draft
abbrev pub seat_moment : {F : Type 0} → Holding → Seat F → Moment DraftView
seat_moment set seat = moment (awake seat.state set) seat.kept.draft

-- where the game with this stamp is open
abbrev pub open_at : {G F : Type 0} → Server G F → List ℕ → Option (Seat F)
open_at server stamp = at_stamp server.seats.entries stamp

-- the stamps of the games that are open, the one used latest first
abbrev pub in_use : {G F : Type 0} → Server G F → List (List ℕ)
in_use server = keys_of server.seats.entries

-- stamps without this one, where it first stands
abbrev pub without : List ℕ → List (List ℕ) → List (List ℕ)
without stamp [] = []
without stamp (s ∷ used) = cond (bytes_eq stamp s) used (s ∷ without stamp used)

-- how many games may be open
abbrev pub room : {G F : Type 0} → Server G F → ℕ
room server = server.seats.cap

-- a game of this stamp can answer by its tables, its draft has its record, which is kept where it belongs
pub record IsSeat {T P F K S L G : Type 0} (o : Outside T P F K S L) (facts : GamesFacts G) (g : G) (set : Holding) (stamp : List ℕ) (seat : Seat F) : Type 0 where
  pub of : seat.kept.stamp ≡ stamp
  pub its : seat.state.me.stamp ≡ stamp
  pub clean : seat.kept.draft.to_put ≡ None
  pub within : IsKeptIn o (facts.places (facts.place g) stamp) seat.kept.file
  pub wakes : CanWake seat.state set
  pub runs : seat.state.is_down ≡ false
  pub keeps : IsKept seat.kept.draft.kept (awake seat.state set)

-- so it is of each game that is open
abbrev pub AreSeats : {T P F K S L G : Type 0} → Outside T P F K S L → GamesFacts G → Server G F → Type 0
AreSeats o facts server = (stamp : List ℕ) → IfSome (open_at server stamp) (IsSeat o facts server.shared.games server.shared.tables stamp)

-- what a game that is open keeps is known
pub record IsKnownSeat {F G : Type 0} (facts : GamesFacts G) (g : G) (before : List Event) (stamp : List ℕ) (seat : Seat F) : Type 0 where
  pub bytes : List ℕ
  pub kept : seat.kept.draft.kept ≡ Some bytes
  pub is : known facts g before stamp bytes

-- so it is of each
abbrev pub AreKnown : {F G : Type 0} → GamesFacts G → Server G F → List Event → Type 0
AreKnown facts server before = (stamp : List ℕ) → IfSome (open_at server stamp) (IsKnownSeat facts server.shared.games before stamp)

-- only where games are, and what they note, may have changed
pub record SameCommon {G : Type 0} (old new : Shared G) : Type 0 where
  pub config : new.config ≡ old.config
  pub tables : new.tables ≡ old.tables

-- and no game was used
pub record SameSeats {G F : Type 0} (old new : Server G F) : Type 0 where
  pub common : SameCommon old.shared new.shared
  pub seats : new.seats ≡ old.seats

-- a server over these games, none of which is open yet
pub record IsNewServer {G F : Type 0} (t : CommonView) (games : G) (server : Server G F) : Type 0 where
  pub common_is : common server ≡ t
  pub games_are : server.shared.games ≡ games
  pub none : (stamp : List ℕ) → open_at server stamp ≡ None
  pub unused : in_use server ≡ []
  pub room_is : room server ≡ t.at_once
