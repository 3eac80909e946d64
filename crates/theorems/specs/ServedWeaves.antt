-- Two servers of one game woven together, each over a file of the game to which nobody else writes (this project's own): what starts find in the
-- two files is then no premise, but follows from where each opening begins.
use Rattle.std.specs.Prelude.{◌≡◌, ◌++◌, ℕ, Bool, true, false, cond, List, [], ◌∷◌, Option, None}
use Rattle.move_msg.specs.declared.arbiter_id.ArbiterId.TheVariants.{A, B}
use Rattle.move_msg.specs.declared.arbiter_id.Sender.TheVariants.{Source}
use Rattle.move_msg.specs.declared.message.Message.{Message}
use Rattle.arbiter_core.specs.Answering.{request_of, sent_by}
use Rattle.arbiter_server.specs.Acts.{Action, Unread, Strange, Refuses, Opens, Answers, Closes, Opening, game_of, is_stamp}
use Rattle.arbiter_server.specs.Folders.{Keepers}
use Rattle.arbiter_server.specs.Games.{Fresh, GameStatus, Open, Shut}
use Rattle.relay_world.specs.Worlds.{Judged, listed}
use Rattle.game_folder.specs.Holdings.{GamesFacts}
use Rattle.served_games.specs.Durable.{left_before}
use Rattle.served_games.specs.Lasting.{left_by}
use Rattle.served_games.specs.PlaceKeepers.{Follows, PlaceKeeper, found_keeper, place_keepers}
use Rattle.served_games.specs.ServedGames.{OpensOverLeft, life_by}
use Rattle.theorems.specs.Interleavings.{AreRunsOf, AreWoven, AtA, AtB, HostEvent, Asks, Does, Ends, Step, deeds_a, deeds_b, IfAnswers, sent_by_act}
use Rattle.theorems.specs.Nets.{IsNoForgery, SystemState}

-- ---- one server

-- where the game is in a run, and what was left of its record before the run
pub record Held : Type 0 where
  pub before : PlaceKeeper
  pub life : GameStatus PlaceKeeper

-- a start may find this in the file then
abbrev pub IsFoundAt : PlaceKeeper → GameStatus PlaceKeeper → Option (List ℕ) → Type 0
IsFoundAt before Fresh found = Follows before (found_keeper found)
IsFoundAt before (Shut left) found = Follows left (found_keeper found)
IsFoundAt before (Open at) found = found ≡ at.keeper.kept

abbrev pub IsFoundIn : Held → Option (List ℕ) → Type 0
IsFoundIn h found = IsFoundAt h.before h.life found

-- after an act, which may be of the game
abbrev pub held_if : Bool → Held → Action PlaceKeeper → Held
held_if true h act = record { before = h.before; life = life_by h.life act }
held_if false h act = h

abbrev pub held_after : List ℕ → Held → HostEvent PlaceKeeper → Held
held_after stamp h (Does act) = held_if (is_stamp stamp (game_of act)) h act
held_after stamp h Asks = h
held_after stamp h Ends = record { before = left_by h.before h.life; life = Fresh }

-- what the arbiter that is open asks for
abbrev pub asked_in : GameStatus PlaceKeeper → List Message
asked_in Fresh = []
asked_in (Shut left) = []
asked_in (Open at) = listed (request_of at.arbiter.me at.arbiter.kept)

abbrev pub sent_in : List ℕ → Held → HostEvent PlaceKeeper → List Message
sent_in stamp h (Does act) = cond (is_stamp stamp (game_of act)) (sent_by_act act) []
sent_in stamp h Asks = asked_in h.life
sent_in stamp h Ends = []

-- ---- premises

abbrev pub IsOpenNow : GameStatus PlaceKeeper → Type 0
IsOpenNow Fresh = ⊥
IsOpenNow (Shut left) = ⊥
IsOpenNow (Open at) = Unit {0}

-- the game that was found under the stamp is this one
abbrev pub IsOfGame : Judged → Opening PlaceKeeper → Type 0
IsOfGame game o = (o.setup.start ≡ game.rules.start) × (o.setup.delay ≡ game.rules.delay)

abbrev pub OpensGame : Judged → Action PlaceKeeper → Type 0
OpensGame game (Unread datagram fault) = Unit {0}
OpensGame game (Strange stamp datagram tried why) = Unit {0}
OpensGame game (Refuses stamp datagram o fault) = IsOfGame game o
OpensGame game (Opens stamp o arbiter) = IsOfGame game o
OpensGame game (Answers stamp e) = Unit {0}
OpensGame game (Closes stamp left) = Unit {0}

-- where the arbiter runs, no put of it failed (`Makes` of served_games)
abbrev pub LeavesKept : Action PlaceKeeper → Type 0
LeavesKept (Unread datagram fault) = Unit {0}
LeavesKept (Strange stamp datagram tried why) = Unit {0}
LeavesKept (Refuses stamp datagram o fault) = Unit {0}
LeavesKept (Opens stamp o arbiter) = o.now.unkept ≡ None
LeavesKept (Answers stamp e) = e.after.arbiter.is_down ≡ false → e.after.keeper.unkept ≡ None
LeavesKept (Closes stamp left) = Unit {0}

-- each opening is of this game and over what was left, and what an arbiter that runs put is kept; and a move or a request of the game came
-- only if it was sent before
pub record ActsOver (game : Judged) (log : List Message) (h : Held) (act : Action PlaceKeeper) : Type 0 where
  pub over : OpensOverLeft (left_before h.before h.life) act
  pub game_is : OpensGame game act
  pub kept : LeavesKept act
  pub came : IfAnswers (λ e. IsNoForgery game log e.datagram) act

abbrev pub ActsIf : Bool → Judged → List Message → Held → Action PlaceKeeper → Type 0
ActsIf true game log h act = ActsOver game log h act
ActsIf false game log h act = Unit {0}

abbrev pub GoesOver : Judged → List Message → Held → HostEvent PlaceKeeper → Type 0
GoesOver game log h (Does act) = ActsIf (is_stamp game.stamp (game_of act)) game log h act
GoesOver game log h Asks = IsOpenNow h.life
GoesOver game log h Ends = Unit {0}

-- ---- both

pub record BothHeld : Type 0 where
  pub a : Held
  pub b : Held
  pub log : List Message

-- nothing stands in either file, and the source has sent the moves
abbrev pub first_held : Held
first_held = record { before = found_keeper None; life = Fresh }

abbrev pub first_both : Judged → BothHeld
first_both game = record { a = first_held; b = first_held; log = sent_by game.stamp Source 0 game.moves }

abbrev pub GoBoth : Judged → BothHeld → List (Step PlaceKeeper PlaceKeeper) → BothHeld → Type 0
GoBoth game old [] new = new ≡ old
GoBoth game old (AtA deed ∷ steps) new =
    GoesOver game old.log old.a deed × GoBoth game (record { a = held_after game.stamp old.a deed; b = old.b; log = old.log ++ sent_in game.stamp old.a deed }) steps new
GoBoth game old (AtB deed ∷ steps) new =
    GoesOver game old.log old.b deed × GoBoth game (record { a = old.a; b = held_after game.stamp old.b deed; log = old.log ++ sent_in game.stamp old.b deed }) steps new

-- the runs come to a net as the theorem of two hosts asks, in which this is kept at both
pub record ComeToNet (a b : Keepers PlaceKeeper) (game : Judged) (steps : List (Step PlaceKeeper PlaceKeeper)) (found its_found : Option (List ℕ)) (log : List Message) : Type 0 where
  pub net : SystemState
  pub woven : AreWoven a b game steps net
  pub at_a : net.a.kept ≡ found
  pub at_b : net.b.kept ≡ its_found
  pub log_is : net.log ≡ log

-- THE LAW: Two servers of one game, their acts in any order, come to a net as the theorem of two hosts asks, in which whatever a start may find
-- over each is kept.
abbrev pub ServedAreWoven : {G H : Type 0} → GamesFacts G → GamesFacts H → Type 0
ServedAreWoven facts others =
    (place : facts.Place) (its : others.Place) (game : Judged) (steps : List (Step PlaceKeeper PlaceKeeper)) (end : BothHeld) (found its_found : Option (List ℕ))
    → AreRunsOf (place_keepers facts place) game A (deeds_a steps)
    → AreRunsOf (place_keepers others its) game B (deeds_b steps)
    → GoBoth game (first_both game) steps end
    → IsFoundIn end.a found → IsFoundIn end.b its_found
    → ComeToNet (place_keepers facts place) (place_keepers others its) game steps found its_found end.log
