-- What each game does in a run of a server of games, act by act (this project's own).
--
-- Of a run `InTurns` of game_server has each datagram and what became of it (`HearsDatagram`), for all games at once. Here each game has its
-- own acts, datagram by datagram, as those of a host (`Goes` of arbiter_server), over what the timeline says of its record. A put that
-- failed is an answer of an arbiter whose keeper failed.
--
-- One thing comes from outside: what is taken of a record is what the game left of it (`AreOverLeft`). It follows from the events by which
-- each act takes and keeps the record (`MakesAll`), where these are a file's or a store's.
use Rattle.std.specs.Prelude.{◌≡◌, ◌++◌, ℕ, Bool, true, false, cond, List, [], ◌∷◌, Option, Some, None, Result, Ok, Err, option_map}
use Rattle.std.specs.List.{AllByRecursion, flat_map}
use Rattle.arbiter_core.specs.Delivers.{Moment, moment}
use Rattle.arbiter_server.specs.Acts.{Action, Unread, Strange, Refuses, Opens, Answers, Closes, DatagramReply, Opening, acts_of, all_replies, game_of, is_stamp, stamp_for}
use Rattle.arbiter_server.specs.Games.{CommonView, Fresh, GameStatus, Goes, IsNotOpen, Open, Shut, life_at}
use Rattle.arbiter_server.specs.Told.{line_words}
use Rattle.arbiter_server.specs.declared.fault.OpenGameError.{OpenGameError}
use Rattle.arbiter_server.specs.declared.games.GameConfig.{GameConfig}
use Rattle.timeline.specs.Events.{Event}
use Rattle.timeline.specs.Outsides.{Outside}
use Rattle.game_folder.specs.Drafts.{DraftView}
use Rattle.game_folder.specs.Holdings.{GamesFacts}
use Rattle.game_server.specs.Fates.{found_draft}
use Rattle.game_server.specs.Printing.{LineForm}
use Rattle.game_server.specs.Rounds.{Heard}
use Rattle.game_server.specs.Runs.{Answers as AnswersRound, Deed, HearsNone, InTurns, Turn}
use Rattle.game_server.specs.Seats.{common, open_at, seat_moment}
use Rattle.game_server.specs.declared.server.Server.{Server}
use Rattle.served_games.specs.PlaceKeepers.{Follows, IsThere, PlaceKeeper, has_failed, has_put, place_keepers}

-- ---- where a game is

-- where a game is open at a server: its arbiter and its draft
abbrev pub game_at : {G F : Type 0} → Server G F → List ℕ → Option (Moment DraftView)
game_at server stamp = option_map (seat_moment server.shared.tables) (open_at server stamp)

-- an arbiter of the game runs, over a record that was kept, of which nothing is to be put
pub record IsOpenAt (at : Moment DraftView) (now : Moment PlaceKeeper) : Type 0 where
  pub same : at ≡ moment now.arbiter (found_draft now.keeper.kept)
  pub kept : now.keeper.unkept ≡ None
  pub runs : now.arbiter.is_down ≡ false

-- the game's acts have led where it is at the server
abbrev pub IsAt : Option (Moment DraftView) → GameStatus PlaceKeeper → Type 0
IsAt None life = IsNotOpen life
IsAt (Some at) Fresh = ⊥
IsAt (Some at) (Shut left) = ⊥
IsAt (Some at) (Open now) = IsOpenAt at now

-- where an act leads
abbrev pub life_by : GameStatus PlaceKeeper → Action PlaceKeeper → GameStatus PlaceKeeper
life_by old (Unread datagram fault) = old
life_by old (Strange of datagram tried why) = old
life_by old (Refuses of datagram o fault) = Shut o.now
life_by old (Opens of o arbiter) = Open (moment arbiter o.now)
life_by old (Answers of e) = life_at e.after
life_by old (Closes of left) = Shut left

abbrev pub life_through : GameStatus PlaceKeeper → List (Action PlaceKeeper) → GameStatus PlaceKeeper
life_through old [] = old
life_through old (act ∷ acts) = life_through (life_by old act) acts

-- ---- what comes from outside

-- an opening is over what was left, if anything was
abbrev pub IsOverLeft : GameStatus PlaceKeeper → PlaceKeeper → Type 0
IsOverLeft Fresh next = Unit {0}
IsOverLeft (Shut left) next = Follows left next
IsOverLeft (Open at) next = Unit {0}

abbrev pub OpensOverLeft : GameStatus PlaceKeeper → Action PlaceKeeper → Type 0
OpensOverLeft old (Unread datagram fault) = Unit {0}
OpensOverLeft old (Strange of datagram tried why) = Unit {0}
OpensOverLeft old (Refuses of datagram o fault) = IsOverLeft old o.before
OpensOverLeft old (Opens of o arbiter) = IsOverLeft old o.before
OpensOverLeft old (Answers of e) = Unit {0}
OpensOverLeft old (Closes of left) = Unit {0}

-- so is each opening
abbrev pub AreOverLeft : GameStatus PlaceKeeper → List (Action PlaceKeeper) → Type 0
AreOverLeft old [] = Unit {0}
AreOverLeft old (act ∷ acts) = OpensOverLeft old act × AreOverLeft (life_by old act) acts

-- ---- the events of a game's acts

module _ {G : Type 0} (facts : GamesFacts G) (place : facts.Place) (stamp : List ℕ) where
  -- a record of the game is kept by these events, or that fails; or none is put
  pub data PutsBy (games : G) (before after : PlaceKeeper) (events : List Event) (now : G) : Type 0 where
    NothingPut : after ≡ before → events ≡ [] → now ≡ games → PutsBy games before after events now
    IsPut : (bytes : List ℕ) → facts.keeps games stamp bytes true events now → after ≡ has_put before bytes → PutsBy games before after events now
    PutFails : (bytes : List ℕ) → facts.keeps games stamp bytes false events now → after ≡ has_failed before bytes → PutsBy games before after events now

  -- the game is looked for, its record is taken, and what opening an arbiter over it has to put is kept, or that fails
  pub record OpensBy (o : Opening PlaceKeeper) (events : List Event) : Type 0 where
    pub game : GameConfig
    pub name : o.setup.name ≡ game.name.items
    pub start : o.setup.start ≡ game.start
    pub delay : o.setup.delay ≡ game.delay
    pub looked : List Event
    pub finds : facts.finds place stamp (Ok game) looked
    pub games : G
    pub there : facts.place games ≡ place
    pub taken : List Event
    pub after : G
    pub takes : facts.takes games stamp (Ok o.before.kept) taken after
    pub put : List Event
    pub last : G
    pub puts : PutsBy after o.before o.now put last
    pub are : events ≡ looked ++ (taken ++ put)

  -- where no arbiter of it is asked for: nothing is looked for, or it isn't found, or its record can't be had
  pub data LooksInVain (events : List Event) : Type 0 where
    NotLooked : events ≡ [] → LooksInVain events
    Looked : (result : Result GameConfig OpenGameError) → facts.finds place stamp result events → LooksInVain events
    NotTaken : (game : GameConfig) (looked : List Event) → facts.finds place stamp (Ok game) looked → (games : G) → facts.place games ≡ place
        → (why : OpenGameError) (taken : List Event) (after : G) → facts.takes games stamp (Err why) taken after → events ≡ looked ++ taken → LooksInVain events

  -- an arbiter of which a put failed is down
  abbrev pub AnswersMake : GameStatus PlaceKeeper → Moment PlaceKeeper → List Event → Type 0
  AnswersMake Fresh after events = ⊥
  AnswersMake (Shut left) after events = ⊥
  AnswersMake (Open at) after events =
      (games now : G) × IsThere facts place games × PutsBy games at.keeper after.keeper events now × (after.arbiter.is_down ≡ false → after.keeper.unkept ≡ None)

  abbrev pub ClosesMake : GameStatus PlaceKeeper → PlaceKeeper → List Event → Type 0
  ClosesMake Fresh left events = ⊥
  ClosesMake (Shut before) left events = ⊥
  ClosesMake (Open at) left events = (left ≡ at.keeper) × (events ≡ [])

  -- an act makes these events; where an arbiter is opened, no put failed
  abbrev pub Makes : GameStatus PlaceKeeper → Action PlaceKeeper → List Event → Type 0
  Makes old (Unread datagram fault) events = ⊥
  Makes old (Strange of datagram tried why) events = LooksInVain events
  Makes old (Refuses of datagram o fault) events = OpensBy o events
  Makes old (Opens of o arbiter) events = OpensBy o events × (o.now.unkept ≡ None)
  Makes old (Answers of e) events = AnswersMake old e.after events
  Makes old (Closes of left) events = ClosesMake old left events

  -- acts make these, one after another
  abbrev pub MakesAll : GameStatus PlaceKeeper → List (Action PlaceKeeper) → List Event → Type 0
  MakesAll old [] events = events ≡ []
  MakesAll old (act ∷ acts) events = (first rest : List Event) × (events ≡ first ++ rest) × Makes old act first × MakesAll (life_by old act) acts rest

-- ---- datagrams

-- the datagram is of a message of this game
abbrev pub is_for : List ℕ → Heard → Bool
is_for stamp h = is_stamp stamp (stamp_for h.datagram)

abbrev pub reply_to : Heard → DatagramReply
reply_to h = record { datagram = h.datagram; outputs = h.reply.outputs.items; line = line_words h.reply.line }

-- the reply to a datagram of this game
abbrev pub reply_for : List ℕ → Heard → List DatagramReply
reply_for stamp h = cond (is_for stamp h) (reply_to h ∷ []) []

-- what is made for a datagram of this game
abbrev pub made_for : List ℕ → Heard → List Event
made_for stamp h = cond (is_for stamp h) h.events []

module _ {G : Type 0} (facts : GamesFacts G) (place : facts.Place) (t : CommonView) (stamp : List ℕ) where
  -- By these acts, and no others, the game goes on as at a host, where each opening is over what was left. They have these replies, and make
  -- these events.
  pub record GoesOn (old : GameStatus PlaceKeeper) (acts : List (Action PlaceKeeper)) (replies : List DatagramReply) (events : List Event) (new : GameStatus PlaceKeeper) : Type 0 where
    pub goes : AreOverLeft old acts → Goes (place_keepers facts place) t stamp old acts new
    pub leads : life_through old acts ≡ new
    pub own : AllByRecursion (λ act. game_of act ≡ Some stamp) acts
    pub replies_are : all_replies acts ≡ replies
    pub makes : MakesAll facts place stamp old acts events

  -- At one datagram after another: those that are of the game have their replies, and what was made for them. At another one the game may
  -- be closed.
  unfoldable pub PlaysAll : GameStatus PlaceKeeper → List Heard → List (List (Action PlaceKeeper)) → GameStatus PlaceKeeper → Type 0
  PlaysAll old [] [] new = new ≡ old
  PlaysAll old [] (acts ∷ more) new = ⊥
  PlaysAll old (h ∷ hs) [] new = ⊥
  PlaysAll old (h ∷ hs) (acts ∷ more) new = (mid : GameStatus PlaceKeeper) × GoesOn old acts (reply_for stamp h) (made_for stamp h) mid × PlaysAll mid hs more new

  -- the acts of a game, for each datagram those that it leads to, and where they have led
  pub record PlayedGame (old : GameStatus PlaceKeeper) (heard : List Heard) (now : Option (Moment DraftView)) : Type 0 where
    pub each : List (List (Action PlaceKeeper))
    pub life : GameStatus PlaceKeeper
    pub plays : PlaysAll old heard each life
    pub at : IsAt now life

-- ---- a run

abbrev pub heard_by : Deed → List Heard
heard_by (AnswersRound round) = round.heard
heard_by HearsNone = []

-- all datagrams that came in some turns
abbrev pub heard_in_turns : List Turn → List Heard
heard_in_turns turns = flat_map (λ t. heard_by t.deed) turns

module _ {T P F K S L G : Type 0} (o : Outside T P F K S L) (facts : GamesFacts G) where
  -- THE LAW: in a run of a server each game has its own acts, from where it was to where it is
  abbrev pub GamesArePlayed : Type 0
  GamesArePlayed =
      (form : LineForm) (texts : List (List ℕ)) (old new : Server G F) (turns : List Turn) (stamp : List ℕ) (was : GameStatus PlaceKeeper)
      → InTurns o facts form texts old turns new → IsAt (game_at old stamp) was
      → PlayedGame facts (facts.place old.shared.games) (common old) stamp was (heard_in_turns turns) (game_at new stamp)

-- all acts in turn
abbrev pub all_acts : List (List (Action PlaceKeeper)) → List (Action PlaceKeeper)
all_acts each = flat_map (λ acts. acts) each

-- THE LAW: all acts of a game that is played so are those of a host; no other game's are among them; and their replies are those to the
-- game's datagrams, in order
pub record ArePlayed {G : Type 0} (facts : GamesFacts G) (place : facts.Place) (t : CommonView) (stamp : List ℕ) (old : GameStatus PlaceKeeper) (heard : List Heard) (acts : List (Action PlaceKeeper)) (new : GameStatus PlaceKeeper) : Type 0 where
  pub on : GoesOn facts place t stamp old acts (flat_map (reply_for stamp) heard) (flat_map (made_for stamp) heard) new
  pub alone : acts_of stamp acts ≡ acts

-- A game's acts at what was opened unasked, after which it is there, and then at what was heard.
pub record OpenedGame {G : Type 0} (facts : GamesFacts G) (place : facts.Place) (t : CommonView) (stamp : List ℕ) (unasked : List Heard) (begun : Option (Moment DraftView)) (heard : List Heard) : Type 0 where
  pub first : List (List (Action PlaceKeeper))
  pub mid : GameStatus PlaceKeeper
  pub opens : PlaysAll facts place t stamp Fresh unasked first mid
  pub at : IsAt begun mid
  pub each : List (List (Action PlaceKeeper))
  pub life : GameStatus PlaceKeeper
  pub plays : PlaysAll facts place t stamp mid heard each life

-- all of them
abbrev pub acts_in : {G : Type 0} {facts : GamesFacts G} {place : facts.Place} {t : CommonView} {stamp : List ℕ} {unasked : List Heard} {begun : Option (Moment DraftView)} {heard : List Heard} → OpenedGame facts place t stamp unasked begun heard → List (Action PlaceKeeper)
acts_in p = all_acts p.first ++ all_acts p.each

abbrev pub PlayedAreHosted : {G : Type 0} → GamesFacts G → Type 0
PlayedAreHosted facts =
    (place : facts.Place) (t : CommonView) (stamp : List ℕ) (old new : GameStatus PlaceKeeper) (heard : List Heard) (each : List (List (Action PlaceKeeper)))
    → PlaysAll facts place t stamp old heard each new → ArePlayed facts place t stamp old heard (all_acts each) new
