-- What private functions take and return.
use Rattle.std.specs.Prelude.{◌≡◌, ◌⊎◌, ◌++◌, ◌∷◌, [], ℕ, Bool, true, false, List, Option, Result, Ok, Err, Some, None, Vec, codes, map, flat_map, option_map}
use Rattle.json_lines.specs.declared.api_told.ApiLine.{ApiLine}
use Rattle.json_lines.specs.ApiTold.{ends_line}
use Rattle.json_lines.specs.declared.api_told.ApiMove.{ApiMove}
use Rattle.std.specs.Global.{Global}
use Rattle.std.specs.Time.{instant_nanos}
use Rattle.std.specs.declared.time.Instant.{Instant}
use Rattle.board_core.specs.declared.moves.Move.{Move}
use Rattle.board_core.specs.declared.parts.Parts.{Parts}
use Rattle.board_core.specs.ComputedMoves.{position_after}
use Rattle.fen_text.specs.Coordinates.{move_text}
use Rattle.fen_text.specs.Written.{fen_of}
use Rattle.http_server.specs.declared.response.Response.{Response}
use Rattle.http_server.specs.Response.{IsResponse}
use Rattle.json.specs.Json.{Members, array, document, member, string}
use Rattle.json.specs.Token.{Token}
use Rattle.json.specs.Tree.{json_tokens}
use Rattle.json.specs.Written.{Written}
use Rattle.answer_parts.specs.declared.answers.refusals.Refusal.{Refusal}
use Rattle.game_reports.specs.declared.asked.GameFound.{GameFound}
use Rattle.game_status.specs.declared.report.ReportForm.{ReportForm}
use Rattle.game_status.specs.declared.report.ReportForm.TheVariants.{Json as AsJson, Metrics as AsMetrics}
use Rattle.game_status.specs.StatusObjects.{AddsMembers, AddsTokens, json_text, text_or_null}
use Rattle.json_lines.specs.declared.told.JsonLine.{JsonLine}
use Rattle.json_lines.specs.Objects.{line_json}
use Rattle.move_msg.specs.TextLines.{ended}
use Rattle.system_io.specs.Disks.{DiskFacts}
use Rattle.table_folder.specs.Folders.{Folder}
use Rattle.http_answer.specs.declared.asking.Place.{Place}
use Rattle.http_answer.specs.declared.asking.Place.TheVariants as place
use Rattle.http_answer.specs.declared.asking.Verb.{Verb}
use Rattle.http_answer.specs.declared.asking.Verb.TheVariants as verb
use Rattle.http_answer.specs.declared.asking.Topic.{Topic}
use Rattle.http_answer.specs.declared.asking.Topic.TheVariants as kind
use Rattle.http_answer.specs.declared.games.Kept.{Kept}
use Rattle.http_answer.specs.declared.games.LackedFolder.{LackedFolder}
use Rattle.http_answer.specs.declared.router.GameTopic.{GameTopic}
use Rattle.http_answer.specs.declared.router.GameTopic.TheVariants as topic
use Rattle.timeline.specs.Outsides.{Outside}
use Rattle.http_answer.specs.Games.{AnswersAlone, AskedOfGames, GamesOn, GoesOn, HasPlies, IsNext, IsReport, IsStart, KeptReport, Ply, Report, fresh_json, lacked_by, plies_items, ply_json, whole_game_json}
use Rattle.http_answer.specs.Games.AskedOfGames.{Games, Metrics, Game, NoStamp, Watch}
use Rattle.http_answer.specs.Queries.{asked_lines, position_text}
use Rattle.http_answer.specs.Places.{Action, Place as PlaceHere}
use Rattle.http_answer.specs.Places.Action.{Reads, ListsMethods, IsRefused, IsUnknown}
use Rattle.http_answer.specs.Places.Place.{Board, Positions, Mainlines, FoldersOfGames, Whole}
use Rattle.http_answer.specs.Replies.{Asked, HasLines, IsPlayedOn, AnswersEach, AnswersText, object_text, objects_text}
use Rattle.http_answer.specs.Replies.Asked.{Page, Values, Mainline, NoText, ValuesOfEach, TooMany, Methods, OtherMethod, UnknownMethod, Elsewhere}

-- what is at a path, of the code's own value for it
abbrev pub place_for : Place → PlaceHere
place_for place.Board = Board
place_for place.Positions = Positions
place_for place.Mainlines = Mainlines
place_for place.Games = FoldersOfGames
place_for place.Whole = Whole

-- what a method asks for, of the code's own value for it
abbrev pub action_for : Verb → Action
action_for verb.Read = Reads
action_for verb.ListMethods = ListsMethods
action_for verb.Refuse = IsRefused
action_for verb.Unknown = IsUnknown

-- what is asked for, of the code's own value for it
abbrev pub asked_for : Topic → Asked
asked_for kind.Page = Page
asked_for (kind.Values text) = Values text.items
asked_for (kind.Mainline text) = Mainline text.items
asked_for kind.NoText = NoText
asked_for (kind.Lines body) = ValuesOfEach (asked_lines body)
asked_for kind.TooManyLines = TooMany
asked_for (kind.Methods p) = Methods (place_for p)
asked_for (kind.OtherMethod p) = OtherMethod (place_for p)
asked_for kind.UnknownMethod = UnknownMethod
asked_for kind.Elsewhere = Elsewhere

-- the object for a line of a body comes behind others
abbrev pub AddsObject : DiskFacts → Folder → List ℕ → List ℕ → List ℕ → Type 0
AddsObject disk folder words old new = (l : ApiLine) × AnswersText disk folder (position_text words) l × (new ≡ old ++ ended (object_text l))

-- these are the objects for the lines of a body
abbrev pub AreObjects : DiskFacts → Folder → List ℕ → List ℕ → Type 0
AreObjects disk folder body objects = (ls : List ApiLine) × AnswersEach disk folder (asked_lines body) ls × (objects ≡ objects_text ls)

-- the response has the answers for these texts
abbrev pub HasAnswers : DiskFacts → Folder → List (List ℕ) → Response → Type 0
HasAnswers disk folder texts r = (ls : List ApiLine) × AnswersEach disk folder texts ls × HasLines ls r

-- One ply of a line of best play: no move is legal, or one is added, which ends the line or leads to this position.
abbrev pub IsOnePly : DiskFacts → Folder → Parts → List ApiMove → List ApiMove → Option Parts → Type 0
IsOnePly disk folder p old new None =
    (IsPlayedOn disk folder p None × (new ≡ old))
    ⊎ ((t : ApiMove) × IsPlayedOn disk folder p (Some t) × (ends_line t ≡ true) × (new ≡ old ++ t ∷ []))
IsOnePly disk folder p old new (Some next) =
    (t : ApiMove) × IsPlayedOn disk folder p (Some t) × (ends_line t ≡ false) × (next ≡ t.told.after) × (new ≡ old ++ t ∷ [])

-- ---- games

-- what is asked for, of the code's own value for it
abbrev pub asked_of_games : GameTopic → AskedOfGames
asked_of_games topic.Games = Games
asked_of_games topic.Metrics = Metrics
asked_of_games (topic.Game stamp) = Game stamp
asked_of_games topic.NoStamp = NoStamp
asked_of_games topic.Watch = Watch

-- a report as it is read
abbrev pub ReadReport : Type 0
ReadReport = Result (Vec ℕ Global) LackedFolder

-- what it is
abbrev pub report_in : ReadReport → Report
report_in (Ok text) = Ok text.items
report_in (Err why) = Err why

-- what is kept of reports, of the code's own value for it
abbrev pub kept_in : Option Kept → Option KeptReport
kept_in kept = option_map (λ k. record { report = report_in k.report; since = instant_nanos k.since }) kept

-- a report is kept with this time; it isn't where there is none
abbrev pub IsKeptAt : Option Instant → ReadReport → Option Kept → Type 0
IsKeptAt None report kept = kept ≡ None
IsKeptAt (Some now) report kept = kept ≡ Some (record { report = report; since = now })

-- what is lacking is what this refusal means
abbrev pub is_lacked : Refusal → LackedFolder → Type 0
is_lacked refusal why = refusal ≡ lacked_by why

-- a report that is kept is one of these folders in this form
abbrev pub IsKeptReport : {G T P F K S L : Type 0} → (G → Outside T P F K S L) → GamesOn G → ReportForm → Option Kept → Type 0
IsKeptReport outside on form None = Unit {0}
IsKeptReport outside on form (Some kept) = IsReport outside on form (report_in kept.report)

abbrev pub AreKeptReports : {G T P F K S L : Type 0} → (G → Outside T P F K S L) → GamesOn G → Option Kept → Option Kept → Type 0
AreKeptReports outside on json metrics = IsKeptReport outside on AsJson json × IsKeptReport outside on AsMetrics metrics

-- ---- the object of a game, as it is written

abbrev pub move_members : Move → List ℕ → Members → Members
move_members m san more = member (codes "uci") (text_or_null (Some (move_text m))) (member (codes "san") (text_or_null (Some san)) more)

abbrev pub position_members : Parts → JsonLine → Members → Members
position_members p l more = member (codes "fen") (string (fen_of p)) (member (codes "tables") (line_json l) more)

-- a position and what tables say of it were written
abbrev pub AddsPosition : DiskFacts → Folder → Parts → Written → Written → Type 0
AddsPosition disk folder p old new = (l : JsonLine) × AnswersAlone disk folder p l × AddsMembers old new (position_members p l)

-- a ply was written
abbrev pub AddsStart : DiskFacts → Folder → Parts → Written → Written → Type 0
AddsStart disk folder start old new = (t : Ply) × IsStart disk folder start t × AddsTokens old new (json_tokens (ply_json t))

abbrev pub AddsNext : DiskFacts → Folder → Parts → Move → Written → Written → Parts → Type 0
AddsNext disk folder p m old new next = (t : Ply) × IsNext disk folder p m t × (t.position ≡ next) × AddsTokens old new (json_tokens (ply_json t))

-- the tokens of plies, one behind the other
abbrev pub plies_tokens : List Ply → List Token
plies_tokens = flat_map (λ t. json_tokens (ply_json t))

-- such plies were written
abbrev pub AddsPlies : (List Ply → Type 0) → Written → Written → Type 0
AddsPlies Are old new = (ts : List Ply) × Are ts × AddsTokens old new (plies_tokens ts)

abbrev pub AddsMoves : DiskFacts → Folder → Parts → List Move → Written → Written → Type 0
AddsMoves disk folder start moves = AddsPlies (GoesOn disk folder start moves)

-- a list of such plies was written as a member
abbrev pub AddsList : (List Ply → Type 0) → Written → Written → Type 0
AddsList Are old new = (ts : List Ply) × Are ts × AddsMembers old new (member (codes "plies") (array (plies_items ts)))

-- the object of a game was written
abbrev pub AddsGame : DiskFacts → Folder → Bool → List ℕ → GameFound → Written → Written → Type 0
AddsGame disk folder compares stamp g old new =
    (ts : List Ply) × HasPlies disk folder g.first ts × AddsTokens old new (json_tokens (whole_game_json compares stamp g ts))

-- the text is that of the object of a game, and reads back
abbrev pub IsGameText : DiskFacts → Folder → Bool → List ℕ → GameFound → List ℕ → Type 0
IsGameText disk folder compares stamp g text =
    (ts : List Ply) × HasPlies disk folder g.first ts × (text ≡ json_text (whole_game_json compares stamp g ts))
    × (document text ≡ Some (whole_game_json compares stamp g ts))

-- the response has such a text
abbrev pub HasGameText : DiskFacts → Folder → Bool → List ℕ → GameFound → Response → Type 0
HasGameText disk folder compares stamp g r = (text : List ℕ) × IsGameText disk folder compares stamp g text × IsResponse 200 fresh_json text r
