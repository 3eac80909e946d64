-- What one game told, over all runs of its server, as `listen` has them, and wherever each of them stopped (this project's own).
use Rattle.std.specs.Prelude.{ℕ, false, List, [], ◌∷◌, Option, Ok}
use Rattle.std.specs.List.{AllByRecursion, flat_map}
use Rattle.arbiter_server.specs.GameFiles.{game_as_told}
use Rattle.arbiter_server.specs.Games.{CommonView, IsGameOf, setup_of}
use Rattle.arbiter_server.specs.declared.games.GameConfig.{GameConfig}
use Rattle.timeline.specs.Events.{Event, Found}
use Rattle.timeline.specs.Outsides.{Outside}
use Rattle.game_folder.specs.OneGame.{OneGameView, OnePlace, one_game_facts}
use Rattle.game_folder.specs.Places.{InFile}
use Rattle.game_server.specs.Printing.{LineForm}
use Rattle.game_server.specs.Rounds.{HearsAll}
use Rattle.game_server.specs.Runs.{InTurns}
use Rattle.game_server.specs.Seats.{IsNewServer}
use Rattle.served_games.specs.Durable.{IsDurable, LastsBehind, ServedRun, StaysFound, behind, events_of, events_of_all, made_of, work_of}
use Rattle.served_games.specs.Unasked.{Begins}

-- a game, its stamp, and the path of the file of its record
abbrev pub one_place : GameConfig → List ℕ → List ℕ → OnePlace
one_place game stamp path = record { stamp = stamp; game = game_as_told game.name.items game.start game.delay; path = path }

module _ {T P F K S L : Type 0} (o : Outside T P F K S L) (t : CommonView) (game : GameConfig) (stamp path : List ℕ) where
  abbrev Stays : List Event → List Event → Type 0
  Stays past events = StaysFound (InFile path) stamp past events

  -- A run as far as it went, behind what happened before it. A new server of the game opens it unasked, or stops before; then come its turns, the
  -- last of which it may not have finished. Nothing else that the run does changes what a start finds in the file.
  pub record IsRunOfOne (past : List Event) (r : ServedRun OneGameView F) : Type 0 where
    pub new : IsNewServer t (record { at = one_place game stamp path; is_lost = false }) r.old
    pub begins : Begins o (one_game_facts o) r.old r.unasked r.begun
    pub form : LineForm
    pub texts : List (List ℕ)
    pub in_turns : InTurns o (one_game_facts o) form texts r.begun r.turns r.mid
    pub hears : HearsAll o (one_game_facts o) r.mid r.heard r.new
    pub first_stays : Stays past r.first
    pub asked_stays : Stays (behind (behind past r.first) (flat_map made_of r.unasked)) r.asked
    pub tail_stays : Stays (behind (behind past r.first) (work_of r)) r.tail

  -- one after another
  abbrev pub AreRunsOfOne : List Event → List (ServedRun OneGameView F) → Type 0
  AreRunsOfOne past [] = Unit {0}
  AreRunsOfOne past (r ∷ rs) = IsRunOfOne past r × AreRunsOfOne (behind past (events_of r)) rs

-- THE LAW: What one game told stays. Let a game have its stamp by the tables of its servers, let anything or nothing stand in the file of its
-- record at first, and let there be any runs of new servers of it, wherever each of them stopped. Premise (who else writes the file; the
-- disk): the file is durable, each start finds what may be found behind all that happened before. Then whatever a start may find behind all of
-- them is a record in which all is that each answer of each run told: as many moves as were acknowledged, the same ones, and the verdict at its
-- ply.
abbrev pub OneGameKeepsWhatItTold : {T P F K S L : Type 0} → Outside T P F K S L → Type 0
OneGameKeepsWhatItTold {F} o =
    (t : CommonView) (game : GameConfig) (stamp path : List ℕ) (there : Option (List ℕ)) (runs : List (ServedRun OneGameView F))
    → IsGameOf t.manifest stamp game.name.items game.start game.delay
    → AreRunsOfOne o t game stamp path (Found path (Ok there) ∷ []) runs
    → IsDurable (InFile path) stamp (Found path (Ok there) ∷ events_of_all runs)
    → AllByRecursion (LastsBehind o (one_game_facts o) (one_place game stamp path) stamp (setup_of t game.name.items game.start game.delay) (behind (Found path (Ok there) ∷ []) (events_of_all runs))) runs
