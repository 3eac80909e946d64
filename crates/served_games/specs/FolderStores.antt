-- What a game of a folder told whose record is in a store, over all runs of the folder's server, as `host --store` has them, and wherever each of
-- them stopped (this project's own).
use Rattle.std.specs.Prelude.{◌≡◌, ℕ, List, [], Option}
use Rattle.std.specs.List.{AllByRecursion}
use Rattle.arbiter_core.specs.Setups.{SetupView}
use Rattle.arbiter_server.specs.GameFiles.{SpellsGame, game_as_told}
use Rattle.arbiter_server.specs.GameFolders.{game_path}
use Rattle.arbiter_server.specs.Games.{CommonView, setup_of}
use Rattle.arbiter_server.specs.declared.games.GameConfig.{GameConfig}
use Rattle.timeline.specs.Events.{Event}
use Rattle.timeline.specs.Outsides.{Outside}
use Rattle.game_folder.specs.Places.{InStore}
use Rattle.game_folder.specs.StoreGames.{StoredGames, StoredPlace, store_games_facts}
use Rattle.game_server.specs.Printing.{LineForm}
use Rattle.game_server.specs.Rounds.{HearsAll}
use Rattle.game_server.specs.Runs.{InTurns}
use Rattle.game_server.specs.Seats.{IsNewServer}
use Rattle.served_games.specs.Durable.{IsDurableAfter, MayFind, ServedRun, behind, events_of_all, work_of}
use Rattle.served_games.specs.FolderRuns.{ReadsAs}
use Rattle.served_games.specs.StoreRuns.{BeginsBy, IsKeptOf, LeadFrom, NoneCommitted, StopsAt}
use Rattle.served_games.specs.Unasked.{Begins}

-- where the files of games are, and the store of their records
abbrev pub stored_place : List ℕ → List ℕ → StoredPlace
stored_place folder path = record { folder = folder; store_path = path }

module _ {T P F K S L : Type 0} (o : Outside T P F K S L) (t : CommonView) (text folder path stamp : List ℕ) where
  -- A run as far as it went. A new server of the folder, which has noted nothing, may open a game unasked first; then come its turns, the last of
  -- which it may not have finished. Of the game, its file is as it was in each run, and no record of it is committed but by the turns, or imported
  -- where none was found.
  pub record IsRunOfStore (r : ServedRun (StoredGames S) F) : Type 0 where
    pub games : StoredGames S
    pub there : games.folder ≡ folder
    pub store : o.store_path games.store ≡ path
    pub none_noted : games.noted ≡ []
    pub new : IsNewServer t games r.old
    pub begins : Begins o (store_games_facts o) r.old r.unasked r.begun
    pub form : LineForm
    pub texts : List (List ℕ)
    pub in_turns : InTurns o (store_games_facts o) form texts r.begun r.turns r.mid
    pub hears : HearsAll o (store_games_facts o) r.mid r.heard r.new
    pub text_is : AllByRecursion (ReadsAs (game_path folder stamp) text) (work_of r)
    pub imports : BeginsBy path stamp r.first
    pub asked_none : NoneCommitted path stamp r.asked
    pub stops : StopsAt path stamp r.new.shared.games r.tail

-- what is said of runs of a folder's servers behind these events, and of what a start may find behind them
abbrev OfStoredRuns : {T P F K S L : Type 0} (o : Outside T P F K S L) → (List Event → List (ServedRun (StoredGames S) F) → StoredPlace → List ℕ → SetupView → Option (List ℕ) → Type 0) → Type 0
OfStoredRuns {F} {S = S} o Holds =
    (t : CommonView) (game : GameConfig) (text folder path stamp : List ℕ) (past : List Event) (found : Option (List ℕ)) (runs : List (ServedRun (StoredGames S) F))
    → SpellsGame text (game_as_told game.name.items game.start game.delay)
    → AllByRecursion (IsRunOfStore o t text folder path stamp) runs
    → IsDurableAfter (InStore path) stamp past (events_of_all runs)
    → MayFind (InStore path) stamp (behind past (events_of_all runs)) found
    → Holds past runs (stored_place folder path) stamp (setup_of t game.name.items game.start game.delay) found

-- THE LAW: What a game of a folder told over a store stays. Let its file have the game's text whenever it is read; let anything have happened
-- before, by which any record of it or none is in the store; and let there be any runs of new servers of the folder over the store, each with
-- datagrams of any games, and wherever each of them stopped, be it in a commit. Premise (who else writes the store; the
-- disk): the store is durable, each look finds what may be found behind all that happened before. Then whatever a start may find behind all of
-- them is a record in which all is that each answer told that went out: as many moves as were acknowledged, the same ones, and the verdict at its
-- ply.
abbrev pub StoreGamesKeepWhatTheyTold : {T P F K S L : Type 0} → Outside T P F K S L → Type 0
StoreGamesKeepWhatTheyTold o = OfStoredRuns o (λ past runs place stamp setup found. AllByRecursion (IsKeptOf o place stamp setup found) runs)

-- THE LAW: And it is what the acts of whole turns lead to, of each run those of its first ones, among them each turn whose answers went out.
abbrev pub StoreGamesAreLed : {T P F K S L : Type 0} → Outside T P F K S L → Type 0
StoreGamesAreLed o = OfStoredRuns o (λ past runs place stamp setup found. LeadFrom o place stamp setup past runs found)
