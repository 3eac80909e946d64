-- What is answered to a request (RFC 9110; names and meanings as in the tablebase API of Lichess, where it has them).
use Rattle.std.specs.Prelude.{◌≡◌, ◌⊎◌, ℕ, zero, suc, Bool, false, List, [], ◌∷◌, ◌++◌, ◌||◌, Option, Some, None, Result, Ok, Err, codes, if◌then◌else◌, length, nat_le}
use Rattle.std.specs.List.{flat_map}
use Rattle.std.specs.Str.{bytes_eq}
use Rattle.board_core.specs.declared.parts.Parts.{Parts}
use Rattle.board_core.specs.declared.piece.Side.{Side}
use Rattle.http.specs.declared.request.Request.{Request}
use Rattle.http.specs.Request.{body_of, head_of}
use Rattle.http1.specs.Fields.{Header}
use Rattle.http_uri.specs.Uri.{uri_path, uri_query}
use Rattle.http_server.specs.declared.response.Response.{Response}
use Rattle.http_server.specs.Exchange.{Call}
use Rattle.http_server.specs.Response.{IsResponse}
use Rattle.judge_core.specs.declared.fault.ProbeFault.{ProbeFault}
use Rattle.judge_core.specs.declared.fault.ProbeFault.TheVariants as probe
use Rattle.json_lines.specs.Api.{api_json}
use Rattle.json_lines.specs.Objects.{json_text}
use Rattle.json_lines.specs.ApiTold.{IsApiLineFor, IsApiLineOf, IsApiPosition, IsBestMove, IsMainline, ends_line, winner_of}
use Rattle.json_lines.specs.declared.api_told.ApiLine.{ApiLine}
use Rattle.json_lines.specs.declared.api_told.ApiMove.{ApiMove}
use Rattle.json_lines.specs.declared.api_told.ApiPosition.{ApiPosition}
use Rattle.json_lines.specs.declared.api_told.ApiLine.TheVariants as line
use Rattle.move_msg.specs.TextLines.{ended, lines_in}
use Rattle.system_io.specs.Disks.{DiskFacts}
use Rattle.table_folder.specs.declared.fault.FileRefusal.{FileRefusal}
use Rattle.table_folder.specs.Faults.{file_fault_name}
use Rattle.table_folder.specs.Folders.{Folder, FolderOn}
use Rattle.table_folder.specs.Settled.{AnswersBy, IsAlone, IsRefusedAt, IsRefusedFor, IsWithMoves}
use Rattle.http_answer.specs.Places.{Action, HasMethods, LacksMethod, Place, RefusesMethod, action_of, an_hour, any_origin, html_type, json_type, kept_for, methods_of, place_at, typed}
use Rattle.http_answer.specs.Places.Action.{Reads, ListsMethods, IsRefused, IsUnknown}
use Rattle.http_answer.specs.Places.Place.{Board, Positions, Mainlines, FoldersOfGames, Whole}
use Rattle.http_answer.specs.Queries.{asked_lines, asked_text}
use Rattle.http_answer.specs.declared.page.TheConstants.{PAGE}

-- ---- what is asked for

pub data Asked : Type 0 where
  -- the page
  Page : Asked
  -- the values of the position of this text, and of its moves
  Values : (text : List ℕ) → Asked
  -- a line of best play from the position of this text
  Mainline : (text : List ℕ) → Asked
  -- one of them, of no text
  NoText : Asked
  -- the values of the position of each of these texts, and of its moves
  ValuesOfEach : (texts : List (List ℕ)) → Asked
  -- those of more texts than one request may have
  TooMany : Asked
  -- which methods there are at a place
  Methods : (place : Place) → Asked
  -- it by another method than these
  OtherMethod : (place : Place) → Asked
  -- it by a method that nobody knows
  UnknownMethod : Asked
  -- what isn't here
  Elsewhere : Asked

-- the text that a query asks about
abbrev pub text_in : Option (List ℕ) → Option (List ℕ)
text_in None = None
text_in (Some query) = asked_text query

abbrev pub values_of : Option (List ℕ) → Asked
values_of None = NoText
values_of (Some text) = Values text

abbrev pub mainline_of : Option (List ℕ) → Asked
mainline_of None = NoText
mainline_of (Some text) = Mainline text

-- a body has at most sixteen lines
abbrev pub values_of_lines : List ℕ → Asked
values_of_lines body = if nat_le (length (lines_in body)) 16 then ValuesOfEach (asked_lines body) else TooMany

-- of the one position of a query, or of each of a body
abbrev pub values_by : List ℕ → Option (List ℕ) → List ℕ → Asked
values_by method query body = if bytes_eq method (codes "POST") then values_of_lines body else values_of (text_in query)

-- to read what is at a place; only the methods of the server as a whole can be asked, and games are asked of elsewhere (`Games`)
abbrev pub reads_at : Place → List ℕ → Option (List ℕ) → List ℕ → Asked
reads_at Board method query body = Page
reads_at Positions method query body = values_by method query body
reads_at Mainlines method query body = mainline_of (text_in query)
reads_at FoldersOfGames method query body = Elsewhere
reads_at Whole method query body = Elsewhere

-- by an action at a place, where to read it is to ask for this
abbrev pub by_action : Place → Action → Asked → Asked
by_action place Reads read = read
by_action place ListsMethods read = Methods place
by_action place IsRefused read = OtherMethod place
by_action place IsUnknown read = UnknownMethod

abbrev pub asked_at : Option Place → List ℕ → Option (List ℕ) → List ℕ → Asked
asked_at None method query body = Elsewhere
asked_at (Some place) method query body = by_action place (action_of (methods_of place) method) (reads_at place method query body)

-- what this request asks for
abbrev pub asked : Request (List ℕ) → Asked
asked r = asked_at (place_at (uri_path (head_of r).uri)) (head_of r).method (uri_query (head_of r).uri) (body_of r)

-- ---- what is answered

-- the response to a request about a position that isn't answered by tables
abbrev pub HasError : ℕ → List ℕ → Response → Type 0
HasError status text r = IsResponse status (json_type ∷ any_origin ∷ []) text r

-- a position out of the tables' scope isn't found
abbrev pub value_status : {A : Type 0} → Result A ProbeFault → ℕ
value_status (Ok value) = 200
value_status (Err probe.OutOfScope) = 404
value_status (Err (probe.NotCovered material)) = 200
value_status (Err (probe.Damaged material)) = 200
value_status (Err probe.OutOfMemory) = 200

abbrev pub status_of : ApiLine → ℕ
status_of (line.Fault fault) = 400
status_of (line.Refused words) = 500
status_of (line.Values t moves) = value_status t.told.columns.probed.wdl
status_of (line.Mainline t plies) = value_status t.told.columns.probed.wdl

abbrev pub not_at_all : List ℕ
not_at_all = codes "no-store"

-- a value stays, and so does that a position has too many men; a table that is missing may come, and a damaged one be mended
abbrev pub value_lifetime : {A : Type 0} → Result A ProbeFault → List ℕ
value_lifetime (Ok value) = an_hour
value_lifetime (Err probe.OutOfScope) = an_hour
value_lifetime (Err (probe.NotCovered material)) = not_at_all
value_lifetime (Err (probe.Damaged material)) = not_at_all
value_lifetime (Err probe.OutOfMemory) = not_at_all

-- that of a text that is no position stays too; a file that is refused may be mended
abbrev pub lifetime_of : ApiLine → List ℕ
lifetime_of (line.Fault fault) = an_hour
lifetime_of (line.Refused words) = not_at_all
lifetime_of (line.Values t moves) = value_lifetime t.told.columns.probed.wdl
lifetime_of (line.Mainline t plies) = value_lifetime t.told.columns.probed.wdl

-- the object of a line
abbrev pub object_text : ApiLine → List ℕ
object_text l = json_text (api_json l)

-- the objects of lines, a line each
abbrev pub objects_text : List ApiLine → List ℕ
objects_text = flat_map (λ l. ended (object_text l))

-- the response that has a line
abbrev pub HasLine : ApiLine → Response → Type 0
HasLine l r = IsResponse (status_of l) (json_type ∷ any_origin ∷ kept_for (lifetime_of l) ∷ []) (object_text l) r

-- the response that has lines (as in the Newline Delimited JSON of the API of Lichess)
abbrev pub HasLines : List ApiLine → Response → Type 0
HasLines ls r = IsResponse 200 (typed (codes "application/x-ndjson") ∷ any_origin ∷ []) (objects_text ls) r

-- the words that refuse the file of a table: its name, and what is wrong with it
abbrev pub refused_words : FileRefusal → List ℕ
refused_words refusal = refusal.name.bytes ++ codes " " ++ file_fault_name refusal.fault

-- the line that refuses it
abbrev pub RefusesFile : FileRefusal → ApiLine → Type 0
RefusesFile refusal (line.Fault fault) = ⊥
RefusesFile refusal (line.Refused words) = words.bytes ≡ refused_words refusal
RefusesFile refusal (line.Values t moves) = ⊥
RefusesFile refusal (line.Mainline t plies) = ⊥

-- What tables of the folder say of a position and of its legal moves, of which none is missing at these; or the refusal of a file of one
-- that is needed.
pub data AnswersPosition (disk : DiskFacts) (folder : Folder) (p : Parts) (l : ApiLine) : Type 0 where
  ByTables : AnswersBy disk folder (IsWithMoves p) (λ tables. IsApiLineOf tables p l) → AnswersPosition disk folder p l
  ByRefusal : (refusal : FileRefusal) → IsRefusedFor disk folder (IsWithMoves p) refusal → RefusesFile refusal l
      → AnswersPosition disk folder p l

-- why a text is no position, or the answer for the position
abbrev pub AnswersText : DiskFacts → Folder → List ℕ → ApiLine → Type 0
AnswersText disk folder text l = IsApiLineFor text (AnswersPosition disk folder) l

-- ---- lines of best play

-- with which move a position is played on, by tables of the folder of which none is missing at the position and after its moves
abbrev pub IsPlayedOn : DiskFacts → Folder → Parts → Option ApiMove → Type 0
IsPlayedOn disk folder p best = AnswersBy disk folder (IsWithMoves p) (λ tables. IsBestMove tables p best)

-- how many plies a line has at most
unfoldable pub most_plies : ℕ
most_plies = 200

abbrev pub IsBestPlay : DiskFacts → Folder → Parts → List ApiMove → Type 0
IsBestPlay disk folder p plies = IsMainline (IsPlayedOn disk folder) most_plies p plies

-- a line of best play; none where neither side wins
abbrev pub IsLineOfPlay : DiskFacts → Folder → Option Side → Parts → List ApiMove → Type 0
IsLineOfPlay disk folder None p plies = plies ≡ []
IsLineOfPlay disk folder (Some winner) p plies = IsBestPlay disk folder p plies

-- a file is refused that the position needs, or one that so many plies of the line come to
unfoldable pub IsRefusedInLine : DiskFacts → Folder → ℕ → Parts → FileRefusal → Type 0
IsRefusedInLine disk folder zero p refusal = ⊥
IsRefusedInLine disk folder (suc n) p refusal =
    IsRefusedFor disk folder (IsWithMoves p) refusal
    ⊎ ((t : ApiMove) × IsPlayedOn disk folder p (Some t) × (ends_line t ≡ false) × IsRefusedInLine disk folder n t.told.after refusal)

-- so it is of a line that is asked for where a side wins
abbrev pub IsRefusedLineOf : DiskFacts → Folder → Option Side → Parts → FileRefusal → Type 0
IsRefusedLineOf disk folder None p refusal = ⊥
IsRefusedLineOf disk folder (Some winner) p refusal = IsRefusedInLine disk folder most_plies p refusal

-- what tables of the folder say of a position, of which none is missing there
abbrev pub IsPositionBy : DiskFacts → Folder → Parts → ApiPosition → Type 0
IsPositionBy disk folder p t = AnswersBy disk folder (IsAlone p) (λ tables. IsApiPosition tables p t)

-- the side that wins there
abbrev pub winner_at : ApiPosition → Option Side
winner_at t = winner_of t.told.position.side t.told.columns.probed.dtz

-- a position by tables of the folder, and the line of best play from it
abbrev pub IsMainlineOf : DiskFacts → Folder → Parts → ApiLine → Type 0
IsMainlineOf disk folder p (line.Fault fault) = ⊥
IsMainlineOf disk folder p (line.Refused words) = ⊥
IsMainlineOf disk folder p (line.Values t moves) = ⊥
IsMainlineOf disk folder p (line.Mainline t plies) =
    IsPositionBy disk folder p t
    × IsLineOfPlay disk folder (winner_at t) p plies.items

-- The line of best play from a position; or the refusal of the file of a table that the position needs, or where a side wins a ply of the
-- line.
pub data AnswersMainline (disk : DiskFacts) (folder : Folder) (p : Parts) (l : ApiLine) : Type 0 where
  OfPlay : IsMainlineOf disk folder p l → AnswersMainline disk folder p l
  OfPosition : (refusal : FileRefusal) → IsRefusedAt disk folder p refusal → RefusesFile refusal l → AnswersMainline disk folder p l
  OfLine : (t : ApiPosition) → IsPositionBy disk folder p t → (refusal : FileRefusal) → IsRefusedLineOf disk folder (winner_at t) p refusal
      → RefusesFile refusal l → AnswersMainline disk folder p l

-- ---- texts

-- why a text is no position, or the line of best play from the position
abbrev pub AnswersMainlineOf : DiskFacts → Folder → List ℕ → ApiLine → Type 0
AnswersMainlineOf disk folder text l = IsApiLineFor text (AnswersMainline disk folder) l

-- the answer for each text, in turn
abbrev pub AnswersEach : DiskFacts → Folder → List (List ℕ) → List ApiLine → Type 0
AnswersEach disk folder [] [] = Unit {0}
AnswersEach disk folder [] (l ∷ ls) = ⊥
AnswersEach disk folder (text ∷ texts) [] = ⊥
AnswersEach disk folder (text ∷ texts) (l ∷ ls) = AnswersText disk folder text l × AnswersEach disk folder texts ls

-- the response to what is asked for, by the tables of this folder
abbrev pub IsReplyTo : DiskFacts → Folder → Asked → Response → Type 0
IsReplyTo disk folder Page r = IsResponse 200 (html_type ∷ kept_for an_hour ∷ []) PAGE.now r
IsReplyTo disk folder (Values text) r = (l : ApiLine) × AnswersText disk folder text l × HasLine l r
IsReplyTo disk folder (Mainline text) r = (l : ApiLine) × AnswersMainlineOf disk folder text l × HasLine l r
IsReplyTo disk folder NoText r = HasError 400 (codes "{\"error\":\"FEN missing\"}") r
IsReplyTo disk folder (ValuesOfEach texts) r = (ls : List ApiLine) × AnswersEach disk folder texts ls × HasLines ls r
IsReplyTo disk folder TooMany r = HasError 413 (codes "{\"error\":\"too many lines\"}") r
IsReplyTo disk folder (Methods place) r = HasMethods place r
IsReplyTo disk folder (OtherMethod place) r = RefusesMethod place r
IsReplyTo disk folder UnknownMethod r = LacksMethod r
IsReplyTo disk folder Elsewhere r = IsResponse 404 (json_type ∷ []) (codes "{\"error\":\"not found\"}") r

-- the response to a request, by the tables of a folder on a disk
abbrev pub IsReply : {D : Type 0} → (D → DiskFacts) → FolderOn D → Request (List ℕ) → Response → Type 0
IsReply facts on request r = IsReplyTo (facts on.disk) on.folder (asked request) r

-- a call is answered so
abbrev pub IsReplied : {D : Type 0} → (D → DiskFacts) → FolderOn D → Call → Type 0
IsReplied facts on c = IsReply facts on c.0 c.1

-- what an answerer does, by its folder, which stays the same
abbrev pub Replies : {D : Type 0} → (D → DiskFacts) → FolderOn D → Request (List ℕ) → Response → FolderOn D → Type 0
Replies facts old request response new = IsReply facts old request response × (new ≡ old)
