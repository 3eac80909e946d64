-- The games of an input, reported as they are read: what is read for each, and what is written of it (this project's own).
use Rattle.std.specs.Prelude.{◌≡◌, ◌⊎◌, ◌++◌, ◌==◌, ◌||◌, not, ℕ, Bool, true, false, List, [], ◌∷◌, length, Option, Some, None, Result, Ok, Err, if◌then◌else◌, option_map}
use Rattle.std.specs.declared.alloc.AllocError.{AllocError}
use Rattle.answer_parts.specs.Printing.{Performs, Prints, printed}
use Rattle.json.specs.Json.{object}
use Rattle.json_lines.specs.Objects.{json_text}
use Rattle.line_teller.specs.ToldLines.{cut_words, refused_memory}
use Rattle.move_msg.specs.TextLines.{ended}
use Rattle.pgn_games.specs.declared.fault.GameFault.{GameFault}
use Rattle.pgn_games.specs.declared.game.GameResult.{GameResult}
use Rattle.pgn_games.specs.Games.{FaultRead, GameRead, GameTold, ReadingTold, ReadsGame}
use Rattle.pgn_games.specs.LineReads.{FailsToRead, ReadsLines}
use Rattle.pgn_games.specs.Lines.{one_more}
use Rattle.pgn_games.specs.Reading.{IfKnown}
use Rattle.pgn_games.specs.Tokens.{Token, tokens_of}
use Rattle.system_io.specs.declared.output.WriteFault.{WriteFault}
use Rattle.system_io.specs.declared.reading.ReadFault.{ReadFault}
use Rattle.system_io.specs.declared.reading.ReadFault.TheVariants.{Unreadable}
use Rattle.table_folder.specs.declared.fault.FileRefusal.{FileRefusal}
use Rattle.timeline.specs.Events.{Event, Flushed, Wrote}
use Rattle.timeline.specs.Outsides.{AddsSome, Outside}
use Rattle.timeline.specs.declared.stream.Stream.TheVariants.{Output}
use Rattle.pgn_teller.specs.declared.finding.Finding.TheVariants.{Agrees, Differs, Uncompared}
use Rattle.pgn_teller.specs.declared.game_line.Form.{Form}
use Rattle.pgn_teller.specs.declared.game_line.Form.TheVariants.{Words, Json}
use Rattle.pgn_teller.specs.declared.rating.Ruled.{Ruled}
use Rattle.pgn_teller.specs.declared.reporting.GameReporter.{GameReporter}
use Rattle.pgn_teller.specs.declared.sums.Mark.{Mark}
use Rattle.pgn_teller.specs.declared.sums.Mark.TheVariants as mark
use Rattle.pgn_teller.specs.declared.sums.Sums.{Sums}
use Rattle.pgn_teller.specs.GameLines.{unread_game_words, game_words, pgn_sums_words, refused_game_words}
use Rattle.pgn_teller.specs.GameObjects.{unread_game_members, game_members, refused_game_members, sums_members}
use Rattle.pgn_teller.specs.Ratings.{Ruling, RulingTold, finding_of}

-- ---- sums

abbrev pub no_sums : Sums
no_sums = record { games = 0; ruled = 0; faults = 0; agree = 0; differ = 0 }

-- how many games were reported, with one more
abbrev pub counted : Sums → Mark → Sums
counted s mark.AtFault = record s { games = one_more s.games; faults = one_more s.faults }
counted s mark.Open = record s { games = one_more s.games }
counted s (mark.Ruled Agrees) = record s { games = one_more s.games; ruled = one_more s.ruled; agree = one_more s.agree }
counted s (mark.Ruled Differs) = record s { games = one_more s.games; ruled = one_more s.ruled; differ = one_more s.differ }
counted s (mark.Ruled Uncompared) = record s { games = one_more s.games; ruled = one_more s.ruled }

-- ---- one game

-- how games are reported: the form of a line, and whether only those are written whose result is another one than the verdict's
pub record Terms : Type 0 where
  pub form : Form
  pub only_differing : Bool

abbrev pub terms_of : {R : Type 0} → GameReporter R → Terms
terms_of reporter = record { form = reporter.form; only_differing = reporter.only_differing }

-- what counts of a game
abbrev pub counted_as : Option Ruled → GameResult → Mark
counted_as None stands = mark.Open
counted_as (Some ruled) stands = mark.Ruled (finding_of (Some ruled) stands)

-- the line of a game with this number, and of one that isn't read
abbrev pub pgn_line : Form → ℕ → GameTold → Option Ruled → List ℕ
pgn_line Words number game ruled = game_words number (length game.moves) ruled game.result
pgn_line Json number game ruled = json_text (object (game_members number game ruled))

abbrev pub pgn_fault_line : Form → ℕ → GameFault → List ℕ
pgn_fault_line Words number fault = unread_game_words number fault
pgn_fault_line Json number fault = json_text (object (unread_game_members number fault))

-- of a game that begins on this line of the file and needs a table whose file is refused
abbrev pub pgn_refused_line : Form → ℕ → ℕ → FileRefusal → List ℕ
pgn_refused_line Words number line refusal = refused_game_words number refusal
pgn_refused_line Json number line refusal = json_text (object (refused_game_members number line refusal))

-- the line of a game, and what counts of it
pub record Line : Type 0 where
  pub words : List ℕ
  pub mark : Mark

-- of a game that is ruled so, and of one that isn't read
abbrev pub ruled_line : Terms → ℕ → GameTold → RulingTold → Line
ruled_line t number game (Ok ruled) = record { words = pgn_line t.form number game ruled; mark = counted_as ruled game.result }
ruled_line t number game (Err refusal) = record { words = pgn_refused_line t.form number game.line refusal; mark = mark.AtFault }

abbrev pub unread_line : Terms → ℕ → GameFault → Line
unread_line t number fault = record { words = pgn_fault_line t.form number fault; mark = mark.AtFault }

-- this is its line, behind what is read for its ruling
abbrev pub IsPgnLine : {K : Type 0} → Ruling K → K → K → Terms → ℕ → ReadingTold → List Event → Line → Type 0
IsPgnLine Rules k next t number (GameRead game) tables l = (ruling : RulingTold) × Rules k next game (Ok ruling) tables × (l ≡ ruled_line t number game ruling)
IsPgnLine Rules k next t number (FaultRead fault) tables l = (next ≡ k) × (tables ≡ []) × (l ≡ unread_line t number fault)

-- this is read for its line, which there may be no memory for
abbrev pub ReadsTables : {K : Type 0} → Ruling K → K → ReadingTold → List Event → Type 0
ReadsTables {K} Rules k (GameRead game) tables = (next : K) × (ruling : Result RulingTold AllocError) × Rules k next game ruling tables
ReadsTables Rules k (FaultRead fault) tables = tables ≡ []

abbrev pub differs : Mark → Bool
differs mark.AtFault = false
differs mark.Open = false
differs (mark.Ruled Agrees) = false
differs (mark.Ruled Differs) = true
differs (mark.Ruled Uncompared) = false

abbrev pub is_written : Bool → Mark → Bool
is_written only_differing m = not only_differing || differs m

-- a text is written, and goes out
abbrev pub gone_out : List ℕ → List Event
gone_out text = Wrote Output text ∷ Flushed Output ∷ []

abbrev pub line_out : Bool → Line → List Event
line_out only_differing l = if is_written only_differing l.mark then gone_out (ended l.words) else []

-- ---- what is read

-- how far it has come: the bytes that are left of an input's lines, and the tokens, where they are known; and what is known, such as the tables
-- that are open
pub record Stage (K : Type 0) : Type 0 where
  pub bytes : Option (List ℕ)
  pub tokens : Option (List Token)
  pub known : K

-- nothing is read yet
abbrev pub begun : {K : Type 0} → Option (List ℕ) → K → Stage K
begun bytes k = record { bytes = bytes; tokens = option_map tokens_of bytes; known = k }

-- the lines of the next game are read, and nothing else; or there is none
pub record ReadsNext {K : Type 0} (at now : Stage K) (told : Option ReadingTold) (events : List Event) : Type 0 where
  pub lines : ReadsLines at.bytes now.bytes events
  pub game : IfKnown at.tokens now.tokens (λ tokens behind. ReadsGame tokens told behind)

-- ---- games in turn

-- a game: what is read of the input for it, what it is, what is read for its ruling, and its line
pub record Turn : Type 0 where
  pub lines : List Event
  pub reading : ReadingTold
  pub tables : List Event
  pub line : Line

-- its line has gone out before more is read
abbrev pub turn_events : Terms → Turn → List Event
turn_events t g = g.lines ++ (g.tables ++ line_out t.only_differing g.line)

-- the next game is reported, with this number
pub record ReportsGame {K : Type 0} (Rules : Ruling K) (t : Terms) (number : ℕ) (at now : Stage K) (g : Turn) : Type 0 where
  pub reads : ReadsNext at now (Some g.reading) g.lines
  pub line : IsPgnLine Rules at.known now.known t number g.reading g.tables g.line

-- no game is reported yet; or some in turn, and then one more: so many there are, and it has come so far
pub data AreReported {K : Type 0} (Rules : Ruling K) (t : Terms) (first : Stage K) : Sums → Stage K → List Event → Type 0 where
  NoneYet : (sums : Sums) (at : Stage K) (events : List Event) → sums ≡ no_sums → at ≡ first → events ≡ [] → AreReported Rules t first sums at events
  OneMore : (before : Sums) (mid : Stage K) (earlier : List Event) → AreReported Rules t first before mid earlier → (g : Turn) (sums : Sums) (at : Stage K) (events : List Event) → ReportsGame Rules t (one_more before.games) mid at g → sums ≡ counted before g.line.mark → events ≡ earlier ++ turn_events t g → AreReported Rules t first sums at events

-- why no more is reported: lines can't be read, or memory is refused for reading on; or it is for the line of a game that was read
pub data StopsAt {K : Type 0} (Rules : Ruling K) (Fails : Type 0) (at : Stage K) (words : List ℕ) (events : List Event) : Type 0 where
  NotRead : (fault : ReadFault) → (fault ≡ Unreadable → Fails) → FailsToRead at.bytes fault events → words ≡ cut_words fault → StopsAt Rules Fails at words events
  NoRoomForLine : (reading : ReadingTold) (now : Stage K) (lines tables : List Event) → ReadsNext at now (Some reading) lines → ReadsTables Rules at.known reading tables → words ≡ refused_memory → events ≡ lines ++ tables → StopsAt Rules Fails at words events

-- All games are reported, up to the input's end: this is how many there are. Or some are, and why no more is printed last; or some so far.
pub data ReportsGames {K : Type 0} (Rules : Ruling K) (t : Terms) (Fails : Type 0) (first : Stage K) (events : List Event) (is : Option (Option Sums)) : Type 0 where
  AllReported : (sums : Sums) (at now : Stage K) (before last : List Event) → AreReported Rules t first sums at before → ReadsNext at now None last → events ≡ before ++ last → is ≡ Some (Some sums) → ReportsGames Rules t Fails first events is
  StopsShort : (sums : Sums) (at : Stage K) (before last : List Event) (words : List ℕ) → AreReported Rules t first sums at before → StopsAt Rules Fails at words last → events ≡ before ++ (last ++ printed (words ∷ [])) → is ≡ Some None → ReportsGames Rules t Fails first events is
  SomeSoFar : (sums : Sums) (at : Stage K) → AreReported Rules t first sums at events → is ≡ None → ReportsGames Rules t Fails first events is

-- ---- the sums

abbrev pub pgn_sums_line : Form → Sums → List ℕ
pgn_sums_line Words s = pgn_sums_words s
pgn_sums_line Json s = json_text (object (sums_members s))

-- they are one line, and this is whether no game was at fault; or memory for the line is refused, which is printed
abbrev pub PrintsSums : Form → Sums → List Event → Option Bool → Type 0
PrintsSums form s events well = Prints (pgn_sums_line form s ∷ []) (s.faults == 0) events well ⊎ Prints (refused_memory ∷ []) false events well

-- ---- all of it

-- all games are reported, and then the sums; or those games after which no more can be; or the games alone so far
pub data ReportsPgn {K : Type 0} (Rules : Ruling K) (t : Terms) (Fails : Type 0) (first : Stage K) (events : List Event) (well : Option Bool) : Type 0 where
  WithSums : (sums : Sums) (games ends : List Event) → ReportsGames Rules t Fails first games (Some (Some sums)) → PrintsSums t.form sums ends well → events ≡ games ++ ends → ReportsPgn Rules t Fails first events well
  WithoutSums : ReportsGames Rules t Fails first events (Some None) → well ≡ Some false → ReportsPgn Rules t Fails first events well
  GamesAlone : (is : Option (Option Sums)) → ReportsGames Rules t Fails first events is → well ≡ None → ReportsPgn Rules t Fails first events well

-- From one moment to another the games of lines are reported of which none is read yet, and nothing else happens; where the output failed, a
-- front of that does. What rules the games is seen by how it rules and by what it knows.
abbrev pub ReportsPgnLines : {T P F K S L R N : Type 0} → Outside T P F K S L → (R → Ruling N) → (R → N) → GameReporter R → L → T → T → Result Bool WriteFault → Type 0
ReportsPgnLines o rules known reporter lines t t' result =
    AddsSome o t t' (Performs (ReportsPgn (rules reporter.ruler) (terms_of reporter) (o.lines lines).fails (begun (o.lines lines).left (known reporter.ruler))) result)
