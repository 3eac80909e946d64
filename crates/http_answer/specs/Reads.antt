-- What is read for a request, one event after another (this project's own).
use Rattle.std.specs.Prelude.{◌≡◌, ◌<◌, ◌⊎◌, ◌++◌, ℕ, List, [], Option, Some, Result, option_map}
use Rattle.std.specs.List.{AllByRecursion}
use Rattle.answer_parts.specs.declared.answers.refusals.Refusal.{Refusal}
use Rattle.board_core.specs.declared.parts.Parts.{Parts}
use Rattle.board_core.specs.Position.{IsPosition}
use Rattle.fen_text.specs.Fen.{SpellsPosition}
use Rattle.http.specs.declared.request.Request.{Request}
use Rattle.http.specs.Request.{head_of}
use Rattle.game_reports.specs.Asked.{ReadsGame, ReadsReport}
use Rattle.game_reports.specs.declared.asked.GameFound.{GameFound}
use Rattle.game_status.specs.declared.report.ReportForm.{ReportForm}
use Rattle.game_status.specs.declared.report.ReportForm.TheVariants.{Json as AsJson, Metrics as AsMetrics}
use Rattle.system_io.specs.declared.reading.ReadFault.{ReadFault}
use Rattle.table_file.specs.declared.kind.TableKind.{TableKind}
use Rattle.table_file.specs.Names.{file_name}
use Rattle.table_folder.specs.Folders.{Folder, FolderOn}
use Rattle.table_folder.specs.declared.files.SystemFiles.{SystemFiles}
use Rattle.task_files.specs.Outside.{path_in}
use Rattle.timeline.specs.Events.{Event, FileRead}
use Rattle.timeline.specs.Outsides.{AddsSome, Outside}
use Rattle.http_answer.specs.Games.{AskedOfGames, AsksOfGames, AsksOfThese, GamesByClock, GamesOn, path_of, places_of}
use Rattle.http_answer.specs.Games.AskedOfGames.{Games, Metrics, Game, NoStamp, Watch}
use Rattle.http_answer.specs.Places.{Action, action_of, methods_of}
use Rattle.http_answer.specs.Places.Action.{Reads}
use Rattle.http_answer.specs.Places.Place.{FoldersOfGames}
use Rattle.http_answer.specs.Replies.{Asked, asked}
use Rattle.http_answer.specs.Replies.Asked.{Values, Mainline, ValuesOfEach}

-- ---- tables

-- the file of a table of this folder is read, whatever comes of that
abbrev pub IsTableRead : Folder → Event → Type 0
IsTableRead folder e = (kind : TableKind) × (key : ℕ) × (key < 145) × (got : Result (List ℕ) ReadFault) × (e ≡ FileRead (path_in folder.path (file_name kind key)) got)

-- and nothing else
abbrev pub AreTableReads : Folder → List Event → Type 0
AreTableReads folder events = AllByRecursion (IsTableRead folder) events

-- for a text: nothing, where it isn't a position
pub data ReadsForText (folder : Folder) (text : List ℕ) (events : List Event) : Type 0 where
  OfPosition : (p : Parts) → SpellsPosition text p → IsPosition p → AreTableReads folder events → ReadsForText folder text events
  OfNothing : events ≡ [] → ReadsForText folder text events

-- for what is asked of tables: nothing, where that isn't positions
abbrev pub ReadsForAsked : Folder → Asked → List Event → Type 0
ReadsForAsked folder (Values text) events = ReadsForText folder text events
ReadsForAsked folder (Mainline text) events = ReadsForText folder text events
ReadsForAsked folder (ValuesOfEach texts) events = AreTableReads folder events
ReadsForAsked folder _ events = events ≡ []

-- ---- games

-- the paths of the folders of games: of one, and of a second one if it is named
pub record GamePaths : Type 0 where
  pub games : List ℕ
  pub other : Option (List ℕ)

abbrev pub paths_on : {G : Type 0} → GamesOn G → GamePaths
paths_on on = record { games = on.games; other = on.other }

abbrev pub paths_of : {G C : Type 0} → Option (GamesByClock G C) → Option GamePaths
paths_of games = option_map (λ on. paths_on on) (places_of games)

module _ {T P F K S L : Type 0} (o : Outside T P F K S L) where
  -- the folders are read for a report, or for one game, whatever comes of that
  abbrev pub ReadsAReport : GamePaths → ReportForm → List Event → Type 0
  ReadsAReport at form events = (report : Option (Result (List ℕ) Refusal)) × ReadsReport o at.games at.other form report events

  abbrev pub ReadsAGame : GamePaths → List ℕ → List Event → Type 0
  ReadsAGame at stamp events = (found : Option (Result (Option GameFound) Refusal)) × ReadsGame o at.games at.other stamp found events

  -- so it is for a report; or one that is kept is answered again
  abbrev pub ReadsForReport : GamePaths → ReportForm → List Event → Type 0
  ReadsForReport at form events = ReadsAReport at form events ⊎ (events ≡ [])

  -- for a game its folders, and then tables for its plies
  abbrev pub ReadsOnceForGame : Folder → GamePaths → List ℕ → List Event → Type 0
  ReadsOnceForGame tables at stamp events = (looking telling : List Event) × ReadsAGame at stamp looking × AreTableReads tables telling × (events ≡ looking ++ telling)

  -- and all of it again, where a table had no room
  abbrev pub ReadsForGame : Folder → GamePaths → List ℕ → List Event → Type 0
  ReadsForGame tables at stamp events =
      ReadsOnceForGame tables at stamp events
      ⊎ ((first again : List Event) × ReadsOnceForGame tables at stamp first × ReadsOnceForGame tables at stamp again × (events ≡ first ++ again))

  -- for what is asked of games
  abbrev pub ReadsForGames : Folder → GamePaths → AskedOfGames → List Event → Type 0
  ReadsForGames tables at Games events = ReadsForReport at AsJson events
  ReadsForGames tables at Metrics events = ReadsForReport at AsMetrics events
  ReadsForGames tables at (Game stamp) events = ReadsForGame tables at stamp events
  ReadsForGames tables at NoStamp events = events ≡ []
  ReadsForGames tables at Watch events = events ≡ []

-- so it is where the method reads, and else nothing
abbrev pub ReadsByAction : Action → (List Event → Type 0) → List Event → Type 0
ReadsByAction Reads By events = By events
ReadsByAction _ By events = events ≡ []

abbrev pub ReadsByMethod : List ℕ → (List Event → Type 0) → List Event → Type 0
ReadsByMethod method By events = ReadsByAction (action_of (methods_of FoldersOfGames) method) By events

-- so it is for what is asked of these games by this method
abbrev pub ReadsOfGames : {G T P F K S L : Type 0} → GamesOn G → List ℕ → AskedOfGames → Outside T P F K S L → Folder → List Event → Type 0
ReadsOfGames on method a o tables events = ReadsByMethod method (ReadsForGames o tables (paths_on on) a) events

-- ---- all requests

-- what is read for a request, by this folder of tables and by these of games, if they are named
pub data ReadsForRequest {T P F K S L : Type 0} (o : Outside T P F K S L) (tables : Folder) (games : Option GamePaths) (request : Request (List ℕ)) (events : List Event) : Type 0 where
  ForTables : ((a : AskedOfGames) → AsksOfThese games (path_of request) a → ⊥) → ReadsForAsked tables (asked request) events → ReadsForRequest o tables games request events
  ForGames : (at : GamePaths) → games ≡ Some at → (a : AskedOfGames) → AsksOfGames (path_of request) a → ReadsByMethod (head_of request).method (ReadsForGames o tables at a) events
      → ReadsForRequest o tables games request events

-- ---- from one moment to a later one

-- this is read, on the system of the tables; on that of the games
abbrev pub ReadsOver : {G T P F K S L : Type 0} → (G → Outside T P F K S L) → FolderOn (SystemFiles G) → T → T → (Outside T P F K S L → Folder → List Event → Type 0) → Type 0
ReadsOver outside tables before after By = AddsSome (outside tables.disk.system.now) before after (By (outside tables.disk.system.now) tables.folder)

abbrev pub ReadsIn : {G T P F K S L : Type 0} → (G → Outside T P F K S L) → GamesOn G → T → T → (Outside T P F K S L → GamePaths → List Event → Type 0) → Type 0
ReadsIn outside games before after By = AddsSome (outside games.system) before after (By (outside games.system) (paths_on games))

-- files of tables are, and nothing else
abbrev pub ReadsTableFiles : {G T P F K S L : Type 0} → (G → Outside T P F K S L) → FolderOn (SystemFiles G) → T → T → Type 0
ReadsTableFiles outside tables before after = ReadsOver outside tables before after (λ o. AreTableReads)
