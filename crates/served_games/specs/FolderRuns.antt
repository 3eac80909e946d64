-- What a game of a folder told, over all runs of the folder's server, as `host` has them, and wherever each of them stopped (this project's own).
use Rattle.std.specs.Prelude.{◌≡◌, ◌≤◌, ℕ, List, [], ◌∷◌, Option, Ok, length}
use Rattle.std.specs.List.{AllByRecursion, flat_map}
use Rattle.arbiter_server.specs.GameFiles.{SpellsGame, game_as_told}
use Rattle.arbiter_server.specs.GameFolders.{game_path, kept_path, most_game_bytes}
use Rattle.arbiter_server.specs.Games.{CommonView, IsGameOf, setup_of}
use Rattle.arbiter_server.specs.declared.games.GameConfig.{GameConfig}
use Rattle.timeline.specs.Events.{Event, FileSought, Found}
use Rattle.timeline.specs.Outsides.{Outside}
use Rattle.game_folder.specs.FolderGames.{folder_games_facts}
use Rattle.game_folder.specs.Places.{InFile}
use Rattle.game_folder.specs.declared.folder_games.FolderGames.{FolderGames}
use Rattle.game_server.specs.Printing.{LineForm}
use Rattle.game_server.specs.Rounds.{HearsAll}
use Rattle.game_server.specs.Runs.{InTurns}
use Rattle.game_server.specs.Seats.{IsNewServer}
use Rattle.served_games.specs.Durable.{IsDurable, LastsBehind, ServedRun, StaysFound, behind, events_of, events_of_all, made_of, work_of}
use Rattle.served_games.specs.Unasked.{Begins}

-- the game's file is as it was: where it was read, it had this text
abbrev pub ReadsAs : List ℕ → List ℕ → Event → Type 0
ReadsAs path text (FileSought at (Ok got)) = at ≡ path → got ≡ text
ReadsAs path text e = Unit {0}

module _ {T P F K S L : Type 0} (o : Outside T P F K S L) (t : CommonView) (text folder stamp : List ℕ) where
  abbrev Stays : List Event → List Event → Type 0
  Stays past events = StaysFound (InFile (kept_path folder stamp)) stamp past events

  -- A run as far as it went, behind what happened before it. A new server of the folder may open a game unasked first; then come its turns, the
  -- last of which it may not have finished. Of the game, its file is as it was in each run, and nothing else that a run does changes what a start
  -- finds in the file of its record.
  pub record IsRunOfFolder (past : List Event) (r : ServedRun FolderGames F) : Type 0 where
    pub games : FolderGames
    pub there : games.folder.now ≡ folder
    pub new : IsNewServer t games r.old
    pub begins : Begins o (folder_games_facts o) r.old r.unasked r.begun
    pub form : LineForm
    pub texts : List (List ℕ)
    pub in_turns : InTurns o (folder_games_facts o) form texts r.begun r.turns r.mid
    pub hears : HearsAll o (folder_games_facts o) r.mid r.heard r.new
    pub text_is : AllByRecursion (ReadsAs (game_path folder stamp) text) (work_of r)
    pub first_stays : Stays past r.first
    pub asked_stays : Stays (behind (behind past r.first) (flat_map made_of r.unasked)) r.asked
    pub tail_stays : Stays (behind (behind past r.first) (work_of r)) r.tail

  -- one after another
  abbrev pub AreRunsOfFolder : List Event → List (ServedRun FolderGames F) → Type 0
  AreRunsOfFolder past [] = Unit {0}
  AreRunsOfFolder past (r ∷ rs) = IsRunOfFolder past r × AreRunsOfFolder (behind past (events_of r)) rs

-- THE LAW: What a game of a folder told stays. Let its file have the game's text, by which the game has its stamp by the tables of the folder's
-- servers; let anything or nothing stand in the file of its record at first; and let there be any runs of new servers of the folder, each with
-- datagrams of any games, and wherever each of them stopped. Premise (who else writes the file of its record; the disk): that file is durable,
-- each start finds what may be found behind all that happened before. Then whatever a start may find behind all of them is a record in which
-- all is that each answer of each run told: as many moves as were acknowledged, the same ones, and the verdict at its ply.
abbrev pub FolderGamesKeepWhatTheyTold : {T P F K S L : Type 0} → Outside T P F K S L → Type 0
FolderGamesKeepWhatTheyTold {F} o =
    (t : CommonView) (game : GameConfig) (text folder stamp : List ℕ) (there : Option (List ℕ)) (runs : List (ServedRun FolderGames F))
    → IsGameOf t.manifest stamp game.name.items game.start game.delay
    → SpellsGame text (game_as_told game.name.items game.start game.delay) → length text ≤ most_game_bytes → o.disk.holds (game_path folder stamp) text
    → AreRunsOfFolder o t text folder stamp (Found (kept_path folder stamp) (Ok there) ∷ []) runs
    → IsDurable (InFile (kept_path folder stamp)) stamp (Found (kept_path folder stamp) (Ok there) ∷ events_of_all runs)
    → AllByRecursion (LastsBehind o (folder_games_facts o) folder stamp (setup_of t game.name.items game.start game.delay) (behind (Found (kept_path folder stamp) (Ok there) ∷ []) (events_of_all runs))) runs
