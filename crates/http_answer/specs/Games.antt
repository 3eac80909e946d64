-- What is answered to a request that asks of games, by folders of games and by tables (this project's own).
use Rattle.std.specs.Prelude.{◌≡◌, ◌++◌, ◌-◌, ℕ, Bool, true, false, List, [], ◌∷◌, ◌||◌, Option, Some, None, Result, Ok, Err, codes, if◌then◌else◌, is_some, nat_lt, option_map}
use Rattle.std.specs.Str.{bytes_eq}
use Rattle.board_core.specs.declared.moves.Move.{Move}
use Rattle.board_core.specs.declared.parts.Parts.{Parts}
use Rattle.board_core.specs.ComputedMoves.{position_after}
use Rattle.fen_text.specs.Coordinates.{move_text}
use Rattle.fen_text.specs.Written.{fen_of}
use Rattle.hex.specs.Hex.{encode_lower}
use Rattle.http.specs.declared.request.Request.{Request}
use Rattle.http.specs.Request.{head_of}
use Rattle.http1.specs.Fields.{Header}
use Rattle.http_uri.specs.Uri.{uri_path}
use Rattle.http_server.specs.declared.response.Response.{Response}
use Rattle.http_server.specs.Exchange.{Call}
use Rattle.http_server.specs.Response.{IsResponse}
use Rattle.json.specs.Json.{Json, document, string, object, array, Items, no_items, item, no_members, member}
use Rattle.judge_core.specs.declared.ask.Ask.TheVariants.{Strict}
use Rattle.json_lines.specs.Objects.{line_json}
use Rattle.json_lines.specs.Told.{IsLineOf}
use Rattle.json_lines.specs.declared.told.JsonLine.{JsonLine}
use Rattle.json_lines.specs.declared.told.JsonLine.TheVariants as line
use Rattle.move_msg.specs.declared.record_bytes.Record.{Record as Records}
use Rattle.move_msg.specs.Stamps.{IsStamp}
use Rattle.san_text.specs.Written.{san_of}
use Rattle.system_io.specs.Disks.{DiskFacts}
use Rattle.answer_parts.specs.Lines.{refusal_words}
use Rattle.answer_parts.specs.declared.answers.refusals.Refusal.{Refusal}
use Rattle.answer_parts.specs.declared.answers.refusals.Refusal.TheVariants as refusal
use Rattle.game_reports.specs.Asked.{ReadsGame, ReadsReport}
use Rattle.game_reports.specs.Folders.{OpensGames}
use Rattle.game_reports.specs.declared.asked.GameFound.{GameFound}
use Rattle.game_status.specs.declared.report.ReportForm.{ReportForm}
use Rattle.game_status.specs.declared.report.ReportForm.TheVariants.{Json as AsJson, Metrics as AsMetrics}
use Rattle.game_status.specs.declared.side.Side.{Side}
use Rattle.game_status.specs.declared.status_lines.Look.{Look}
use Rattle.game_status.specs.declared.status_lines.Look.TheVariants as look
use Rattle.game_status.specs.StatusObjects.{count_or_null, first_members, json_text, members_if, second_members, text_or_null}
use Rattle.table_folder.specs.declared.fault.FileRefusal.{FileRefusal}
use Rattle.table_folder.specs.declared.files.SystemFiles.{SystemFiles}
use Rattle.table_folder.specs.Folders.{Folder, FolderOn}
use Rattle.table_folder.specs.Settled.{AnswersBy, IsAlone, IsRefusedAt}
use Rattle.timeline.specs.Events.{Event}
use Rattle.timeline.specs.Outsides.{Outside}
use Rattle.http_answer.specs.Files.{files_of}
use Rattle.http_answer.specs.Places.{Action, HasMethods, LacksMemory, LacksMethod, RefusesMethod, action_of, an_hour, html_type, kept_for, methods_of, typed}
use Rattle.http_answer.specs.Places.Action.{Reads, ListsMethods, IsRefused, IsUnknown}
use Rattle.http_answer.specs.Places.Place.{FoldersOfGames}
use Rattle.http_answer.specs.Replies.{IsReply, refused_words}
use Rattle.http_answer.specs.declared.games.GameFolders.{GameFolders}
use Rattle.http_answer.specs.declared.games.LackedFolder.{LackedFolder}
use Rattle.http_answer.specs.declared.games.LackedFolder.TheVariants as lacked
use Rattle.http_answer.specs.declared.watch.TheConstants.{WATCH}

-- ---- folders of games

-- the system where they are, the folder of games, and a second one if it is named
pub record GamesOn (G : Type 0) : Type 0 where
  pub system : G
  pub games : List ℕ
  pub other : Option (List ℕ)

abbrev pub games_on : {G : Type 0} → GameFolders G → GamesOn G
games_on f = record { system = f.system.now; games = f.games.now; other = option_map (λ s. s.now) f.other }

-- What is so by a reading of the folders, whose events some are: a reading now, or one of an earlier answer. What files and stores may give
-- at one time or another is one relation.
abbrev pub IsSeen : {G T P F K S L A : Type 0} → (G → Outside T P F K S L) → GamesOn G
    → (Outside T P F K S L → List ℕ → Option (List ℕ) → A → List Event → Type 0) → A → Type 0
IsSeen outside on By result = (events : List Event) × By (outside on.system) on.games on.other result events

-- what a refusal means: a folder can't be listed, or its store can't be read
abbrev pub lacked_by : LackedFolder → Refusal
lacked_by lacked.Files = refusal.Files
lacked_by lacked.Store = refusal.Store

-- why there is nothing to see: so the first folder is refused, or else the second one
abbrev pub LacksGames : {G T P F K S L : Type 0} → (G → Outside T P F K S L) → GamesOn G → LackedFolder → Type 0
LacksGames outside on why = (events : List Event) × OpensGames (outside on.system) on.games on.other (Err (refusal_words (lacked_by why))) events

-- the text of a report, as `status` writes it in this form
abbrev pub IsReportText : {G T P F K S L : Type 0} → (G → Outside T P F K S L) → GamesOn G → ReportForm → List ℕ → Type 0
IsReportText outside on form text = IsSeen outside on (λ o games other. ReadsReport o games other form) (Some (Ok text))

-- a report, or why there is none
abbrev pub Report : Type 0
Report = Result (List ℕ) LackedFolder

abbrev pub IsReport : {G T P F K S L : Type 0} → (G → Outside T P F K S L) → GamesOn G → ReportForm → Report → Type 0
IsReport outside on form (Ok text) = IsReportText outside on form text
IsReport outside on form (Err why) = LacksGames outside on why

-- ---- the age of a report

-- a report that was read, and when, in nanoseconds of the clock
pub record KeptReport : Type 0 where
  pub report : Report
  pub since : ℕ

-- it is less than a second old
abbrev pub is_fresh : ℕ → ℕ → Bool
is_fresh since now = nat_lt (now - since) 1_000_000_000

-- the report that is answered again at this time, if there is one
abbrev pub fresh_at : Option ℕ → Option KeptReport → Option Report
fresh_at None kept = None
fresh_at (Some now) None = None
fresh_at (Some now) (Some kept) = if is_fresh kept.since now then Some kept.report else None

-- a report is kept with the time, and not where the clock says none
abbrev pub kept_at : Option ℕ → Report → Option KeptReport
kept_at None report = None
kept_at (Some now) report = Some (record { report = report; since = now })

-- folders of games, by a clock, with what is kept of reports in each form
pub record GamesByClock (G C : Type 0) : Type 0 where
  pub on : GamesOn G
  pub clock : C
  pub json : Option KeptReport
  pub metrics : Option KeptReport

-- of which no report was read yet
abbrev pub unread_games : {G C : Type 0} → GamesOn G → C → GamesByClock G C
unread_games on clock = record { on = on; clock = clock; json = None; metrics = None }

-- what is kept in this form; and the same games with this kept in it
abbrev pub kept_by : {G C : Type 0} → ReportForm → GamesByClock G C → Option KeptReport
kept_by AsJson g = g.json
kept_by AsMetrics g = g.metrics

abbrev pub with_kept : {G C : Type 0} → ReportForm → Option KeptReport → GamesByClock G C → GamesByClock G C
with_kept AsJson kept g = record { on = g.on; clock = g.clock; json = kept; metrics = g.metrics }
with_kept AsMetrics kept g = record { on = g.on; clock = g.clock; json = g.json; metrics = kept }

-- The report in this form at this time: the one that is kept, if that is less than a second old; and else one that is read, and kept with
-- the time.
pub data IsReportAt {G C : Type 0} (now : Option ℕ) (form : ReportForm) (old new : GamesByClock G C) (report : Report) : Type 0 where
  Again : fresh_at now (kept_by form old) ≡ Some report → new ≡ old → IsReportAt now form old new report
  Anew : fresh_at now (kept_by form old) ≡ None → new ≡ with_kept form (kept_at now report) old → IsReportAt now form old new report

-- it is so at a time that the clock says
abbrev pub IsAged : {G C : Type 0} → (C → Option ℕ → Type 0) → ReportForm → GamesByClock G C → GamesByClock G C → Report → Type 0
IsAged says form old new report = (now : Option ℕ) × says old.clock now × IsReportAt now form old new report

-- ---- one game

-- what is found of the game with a stamp; and that the folders list no file of it
abbrev pub IsFoundGame : {G T P F K S L : Type 0} → (G → Outside T P F K S L) → GamesOn G → List ℕ → GameFound → Type 0
IsFoundGame outside on stamp g = IsSeen outside on (λ o games other. ReadsGame o games other stamp) (Some (Ok (Some g)))

abbrev pub HasNoGame : {G T P F K S L : Type 0} → (G → Outside T P F K S L) → GamesOn G → List ℕ → Type 0
HasNoGame outside on stamp = IsSeen outside on (λ o games other. ReadsGame o games other stamp) (Some (Ok None))

abbrev pub IsGameOrNone : {G T P F K S L : Type 0} → (G → Outside T P F K S L) → GamesOn G → List ℕ → Option GameFound → Type 0
IsGameOrNone outside on stamp None = HasNoGame outside on stamp
IsGameOrNone outside on stamp (Some g) = IsFoundGame outside on stamp g

-- ---- the plies of a game

-- the line that refuses the file of a table
abbrev pub RefusesAlone : FileRefusal → JsonLine → Type 0
RefusesAlone refusal (line.Fault fault) = ⊥
RefusesAlone refusal (line.Refused words) = words.bytes ≡ refused_words refusal
RefusesAlone refusal (line.Position t) = ⊥
RefusesAlone refusal (line.Root t moves) = ⊥

-- What tables of the folder say of a position, of which none is missing at it; or the refusal of a file of one that is needed.
pub data AnswersAlone (disk : DiskFacts) (folder : Folder) (p : Parts) (l : JsonLine) : Type 0 where
  ByTables : AnswersBy disk folder (IsAlone p) (λ tables. IsLineOf Strict false tables p l) → AnswersAlone disk folder p l
  ByRefusal : (refusal : FileRefusal) → IsRefusedAt disk folder p refusal → RefusesAlone refusal l → AnswersAlone disk folder p l

-- a ply: the move that led to it, in both notations, which is none at the start; its position; and what tables say of that
pub record Ply : Type 0 where
  pub uci : Option (List ℕ)
  pub san : Option (List ℕ)
  pub position : Parts
  pub line : JsonLine

pub record IsStart (disk : DiskFacts) (folder : Folder) (start : Parts) (t : Ply) : Type 0 where
  pub uci : t.uci ≡ None
  pub san : t.san ≡ None
  pub position : t.position ≡ start
  pub line : AnswersAlone disk folder t.position t.line

-- the ply after a legal move
pub record IsNext (disk : DiskFacts) (folder : Folder) (p : Parts) (m : Move) (t : Ply) : Type 0 where
  pub uci : t.uci ≡ Some (move_text m)
  pub san : t.san ≡ Some (san_of p m)
  pub position : position_after p m ≡ Some t.position
  pub line : AnswersAlone disk folder t.position t.line

-- the plies after these moves: all of them, or up to the first move that isn't legal in its turn
abbrev pub GoesOn : DiskFacts → Folder → Parts → List Move → List Ply → Type 0
GoesOn disk folder p [] ts = ts ≡ []
GoesOn disk folder p (m ∷ ms) [] = position_after p m ≡ None
GoesOn disk folder p (m ∷ ms) (t ∷ ts) = IsNext disk folder p m t × GoesOn disk folder t.position ms ts

abbrev pub ArePlies : DiskFacts → Folder → Parts → List Move → List Ply → Type 0
ArePlies disk folder start moves [] = ⊥
ArePlies disk folder start moves (t ∷ ts) = IsStart disk folder start t × GoesOn disk folder start moves ts

abbrev pub moves_in : Option Records → List Move
moves_in None = []
moves_in (Some r) = r.moves

-- those of one folder
abbrev pub ArePliesOf : DiskFacts → Folder → Side → List Ply → Type 0
ArePliesOf disk folder side ts = ArePlies disk folder side.game.start (moves_in side.kept) ts

-- the plies of what a folder has; none where that is at fault
abbrev pub HasPlies : DiskFacts → Folder → Look → List Ply → Type 0
HasPlies disk folder (look.One side) ts = ArePliesOf disk folder side ts
HasPlies disk folder (look.Both side other compared) ts = ArePliesOf disk folder side ts
HasPlies disk folder (look.AtFault fault) ts = ts ≡ []
HasPlies disk folder (look.OtherAtFault fault) ts = ts ≡ []

-- ---- the object of a game

abbrev pub ply_json : Ply → Json
ply_json t =
    object
    (member (codes "uci") (text_or_null t.uci)
    (member (codes "san") (text_or_null t.san)
    (member (codes "fen") (string (fen_of t.position))
    (member (codes "tables") (line_json t.line) no_members))))

abbrev pub plies_items : List Ply → Items
plies_items [] = no_items
plies_items (t ∷ ts) = item (ply_json t) (plies_items ts)

abbrev pub delay_in : Look → Option ℕ
delay_in (look.One side) = Some side.game.delay
delay_in (look.Both side other compared) = Some side.game.delay
delay_in (look.AtFault fault) = None
delay_in (look.OtherAtFault fault) = None

-- the members that `status` writes of it, and between those of the two folders its delay and its plies
abbrev pub whole_game_json : Bool → List ℕ → GameFound → List Ply → Json
whole_game_json compares stamp g plies =
    object
    (member (codes "stamp") (string (encode_lower stamp))
    (first_members g.first
    (member (codes "delay") (count_or_null (delay_in g.first))
    (member (codes "plies") (array (plies_items plies))
    (members_if compares (second_members g.both) no_members)))))

-- ---- what is asked for

pub data AskedOfGames : Type 0 where
  -- all games, and how many there are of each kind
  Games : AskedOfGames
  -- how many there are of each kind, as metrics
  Metrics : AskedOfGames
  -- the game with this stamp
  Game : (stamp : List ℕ) → AskedOfGames
  -- a game, by what is no stamp
  NoStamp : AskedOfGames
  -- the page that follows games
  Watch : AskedOfGames

-- the path of a game, or of the page on it
abbrev pub game_path : List ℕ → List ℕ
game_path rest = codes "/games/" ++ rest

abbrev pub watch_path : List ℕ → List ℕ
watch_path rest = codes "/watch/" ++ rest

abbrev pub IsNoStamp : List ℕ → Type 0
IsNoStamp digits = (stamp : List ℕ) → IsStamp stamp → digits ≡ encode_lower stamp → ⊥

-- a game by the digits of its stamp, or by what is no stamp
pub data AsksByDigits (digits : List ℕ) (a : AskedOfGames) : Type 0 where
  OfStamp : (stamp : List ℕ) → IsStamp stamp → digits ≡ encode_lower stamp → a ≡ Game stamp → AsksByDigits digits a
  OfNone : IsNoStamp digits → a ≡ NoStamp → AsksByDigits digits a

-- so for the page, which is one for all games
pub data AsksToWatch (digits : List ℕ) (a : AskedOfGames) : Type 0 where
  PageOfStamp : (stamp : List ℕ) → IsStamp stamp → digits ≡ encode_lower stamp → a ≡ Watch → AsksToWatch digits a
  PageOfNone : IsNoStamp digits → a ≡ NoStamp → AsksToWatch digits a

-- what a longer path asks for
pub data AsksBelow (path : List ℕ) (a : AskedOfGames) : Type 0 where
  ForGame : (digits : List ℕ) → path ≡ game_path digits → AsksByDigits digits a → AsksBelow path a
  ForPage : (digits : List ℕ) → path ≡ watch_path digits → AsksToWatch digits a → AsksBelow path a

-- the paths of all games, and of the page on them, with a slash behind or without
abbrev pub is_games : List ℕ → Bool
is_games path = bytes_eq path (codes "/games") || bytes_eq path (codes "/games/")

abbrev pub is_watch : List ℕ → Bool
is_watch path = bytes_eq path (codes "/watch") || bytes_eq path (codes "/watch/")

-- what this path asks for
pub data AsksOfGames (path : List ℕ) (a : AskedOfGames) : Type 0 where
  ForGames : is_games path ≡ true → a ≡ Games → AsksOfGames path a
  ForMetrics : bytes_eq path (codes "/metrics") ≡ true → a ≡ Metrics → AsksOfGames path a
  ForWatch : is_watch path ≡ true → a ≡ Watch → AsksOfGames path a
  ForMore : is_games path ≡ false → bytes_eq path (codes "/metrics") ≡ false → is_watch path ≡ false → AsksBelow path a → AsksOfGames path a

-- ---- what is answered

-- the fields of a response that is of the moment: it isn't to be kept
abbrev pub fresh_fields : List ℕ → List Header
fresh_fields kind = typed kind ∷ kept_for (codes "no-store") ∷ []

abbrev pub fresh_json : List Header
fresh_json = fresh_fields (codes "application/json")

-- that something is lacking of a folder
abbrev pub lacked_text : LackedFolder → List ℕ
lacked_text lacked.Files = codes "{\"error\":\"refused files\"}"
lacked_text lacked.Store = codes "{\"error\":\"refused store\"}"

-- the response with a report, of this type; or with what is lacking
abbrev pub HasReportText : Report → List ℕ → Response → Type 0
HasReportText (Ok text) kind r = IsResponse 200 (fresh_fields kind) text r
HasReportText (Err why) kind r = IsResponse 500 fresh_json (lacked_text why) r

-- the response with a report in this form, of which so is true
abbrev pub HasReport : {G T P F K S L : Type 0} → (G → Outside T P F K S L) → GamesOn G → ReportForm → List ℕ → (Report → Type 0) → Response → Type 0
HasReport outside on form kind Is r = (report : Report) × IsReport outside on form report × HasReportText report kind r × Is report

abbrev pub AnswersLack : {G T P F K S L : Type 0} → (G → Outside T P F K S L) → GamesOn G → Response → Type 0
AnswersLack outside on r = (why : LackedFolder) × LacksGames outside on why × IsResponse 500 fresh_json (lacked_text why) r

-- the object of the game with a stamp, by tables of this folder; a parser reads the object back
pub record HasWholeGame {G T P F K S L : Type 0} (tables : DiskFacts) (folder : Folder) (outside : G → Outside T P F K S L) (on : GamesOn G) (stamp : List ℕ) (text : List ℕ) : Type 0 where
  pub found : GameFound
  pub is_found : IsFoundGame outside on stamp found
  pub plies : List Ply
  pub are_plies : HasPlies tables folder found.first plies
  pub is_text : text ≡ json_text (whole_game_json (is_some on.other) stamp found plies)
  pub reads_back : document text ≡ Some (whole_game_json (is_some on.other) stamp found plies)

-- the object of a game; or there is no such game; or something is lacking of a folder
pub data HasGame {G T P F K S L : Type 0} (tables : DiskFacts) (folder : Folder) (outside : G → Outside T P F K S L) (on : GamesOn G) (stamp : List ℕ) (r : Response) : Type 0 where
  Found : (text : List ℕ) → HasWholeGame tables folder outside on stamp text → IsResponse 200 fresh_json text r → HasGame tables folder outside on stamp r
  Unknown : HasNoGame outside on stamp → IsResponse 404 fresh_json (codes "{\"error\":\"game not found\"}") r → HasGame tables folder outside on stamp r
  Lacking : AnswersLack outside on r → HasGame tables folder outside on stamp r

-- What is answered to what is asked for, by the tables of a folder and by folders of games, by a clock that says such times. What is kept
-- of reports stays where none is asked for.
abbrev pub AnswersOfGames : {G C T P F K S L : Type 0} → (G → Outside T P F K S L) → (C → Option ℕ → Type 0) → FolderOn (SystemFiles G)
    → GamesByClock G C → GamesByClock G C → AskedOfGames → Response → Type 0
AnswersOfGames outside says tables old new Games r = HasReport outside old.on AsJson (codes "application/json") (IsAged says AsJson old new) r
AnswersOfGames outside says tables old new Metrics r = HasReport outside old.on AsMetrics (codes "text/plain; version=0.0.4") (IsAged says AsMetrics old new) r
AnswersOfGames outside says tables old new (Game stamp) r = HasGame (files_of outside tables.disk) tables.folder outside old.on stamp r × (new ≡ old)
AnswersOfGames outside says tables old new NoStamp r = IsResponse 400 fresh_json (codes "{\"error\":\"no stamp\"}") r × (new ≡ old)
AnswersOfGames outside says tables old new Watch r = IsResponse 200 (html_type ∷ kept_for an_hour ∷ []) WATCH.now r × (new ≡ old)

-- the same, as a relation of what is kept before and after
abbrev pub MayAnswer : {G C T P F K S L : Type 0} → (G → Outside T P F K S L) → (C → Option ℕ → Type 0) → FolderOn (SystemFiles G) → AskedOfGames
    → GamesByClock G C → GamesByClock G C → Response → Type 0
MayAnswer outside says tables a old new r = AnswersOfGames outside says tables old new a r

-- it is answered so; or which methods there are, or that this one isn't among them, and all stays
abbrev pub IsByAction : {G : Type 0} → Action → (G → G → Response → Type 0) → G → G → Response → Type 0
IsByAction Reads Answers old new r = Answers old new r
IsByAction ListsMethods Answers old new r = HasMethods FoldersOfGames r × (new ≡ old)
IsByAction IsRefused Answers old new r = RefusesMethod FoldersOfGames r × (new ≡ old)
IsByAction IsUnknown Answers old new r = LacksMethod r × (new ≡ old)

abbrev pub IsByMethod : {G : Type 0} → List ℕ → (G → G → Response → Type 0) → G → G → Response → Type 0
IsByMethod method Answers old new r = IsByAction (action_of (methods_of FoldersOfGames) method) Answers old new r

-- ---- all requests

abbrev pub path_of : Request (List ℕ) → List ℕ
path_of request = uri_path (head_of request).uri

-- a request that asks of games, where folders of games are named
abbrev pub AsksOfThese : {G : Type 0} → Option G → List ℕ → AskedOfGames → Type 0
AsksOfThese None path a = ⊥
AsksOfThese (Some games) path a = AsksOfGames path a

-- the response to a request, by the tables of a folder and by folders of games, if they are named
pub data IsServed {G C T P F K S L : Type 0} (outside : G → Outside T P F K S L) (says : C → Option ℕ → Type 0) (tables : FolderOn (SystemFiles G))
    (old new : Option (GamesByClock G C)) (request : Request (List ℕ)) (r : Response) : Type 0 where
  OfTables : ((a : AskedOfGames) → AsksOfThese old (path_of request) a → ⊥) → IsReply (files_of outside) tables request r → new ≡ old → IsServed outside says tables old new request r
  OfGames : (was now : GamesByClock G C) → old ≡ Some was → new ≡ Some now → (a : AskedOfGames) → AsksOfGames (path_of request) a
      → IsByMethod (head_of request).method (MayAnswer outside says tables a) was now r → IsServed outside says tables old new request r

-- a request is served so; or memory was refused for that, and what is kept of reports stays
pub data IsResponded {G C T P F K S L : Type 0} (outside : G → Outside T P F K S L) (says : C → Option ℕ → Type 0) (tables : FolderOn (SystemFiles G))
    (old new : Option (GamesByClock G C)) (request : Request (List ℕ)) (r : Response) : Type 0 where
  ByFolders : IsServed outside says tables old new request r → IsResponded outside says tables old new request r
  ForWantOfMemory : LacksMemory r → new ≡ old → IsResponded outside says tables old new request r

-- the folders of games, if they are named
abbrev pub places_of : {G C : Type 0} → Option (GamesByClock G C) → Option (GamesOn G)
places_of games = option_map (λ g. g.on) games

-- a call is answered so by these folders, whatever is kept of reports before and after it
pub record IsServedCall {G C T P F K S L : Type 0} (outside : G → Outside T P F K S L) (says : C → Option ℕ → Type 0) (tables : FolderOn (SystemFiles G))
    (on : Option (GamesOn G)) (c : Call) : Type 0 where
  pub old : Option (GamesByClock G C)
  pub new : Option (GamesByClock G C)
  pub same : places_of old ≡ on
  pub answered : IsResponded outside says tables old new c.0 c.1

-- the folders of games, if they are named, and that of the tables are on one system
abbrev pub AreOfOne : {G C : Type 0} → FolderOn (SystemFiles G) → Option (GamesByClock G C) → Type 0
AreOfOne tables None = Unit {0}
AreOfOne tables (Some games) = games.on.system ≡ tables.disk.system.now

-- what a router does, by its folders, which stay the same
pub record Routes {G C T P F K S L : Type 0} (outside : G → Outside T P F K S L) (says : C → Option ℕ → Type 0) (tables : FolderOn (SystemFiles G))
    (old : Option (GamesByClock G C)) (request : Request (List ℕ)) (r : Response) (after : FolderOn (SystemFiles G)) (new : Option (GamesByClock G C)) : Type 0 where
  pub served : IsServed outside says tables old new request r
  pub tables_stay : after ≡ tables
  pub games_stay : places_of new ≡ places_of old

-- a request is answered by them, or memory was refused for that; the folders stay the same
pub record Responds {G C T P F K S L : Type 0} (outside : G → Outside T P F K S L) (says : C → Option ℕ → Type 0) (tables : FolderOn (SystemFiles G))
    (old : Option (GamesByClock G C)) (request : Request (List ℕ)) (r : Response) (after : FolderOn (SystemFiles G)) (new : Option (GamesByClock G C)) : Type 0 where
  pub answered : IsResponded outside says tables old new request r
  pub tables_stay : after ≡ tables
  pub games_stay : places_of new ≡ places_of old
