-- One game of an input that is reported.
use Rattle.std.specs.Prelude.{◌≡◌, ◌++◌, ℕ, Bool, List, [], ◌∷◌, Option, Some, None, Result, Ok, Err, if◌then◌else◌}
use Rattle.std.specs.declared.alloc.AllocError.{AllocError}
use Rattle.answer_parts.specs.Printing.{Performs, printed}
use Rattle.line_teller.specs.ToldLines.{refused_memory}
use Rattle.move_msg.specs.TextLines.{ended}
use Rattle.pgn_games.specs.declared.reader.PgnReader.{PgnReader}
use Rattle.pgn_games.specs.Games.{ReadingTold}
use Rattle.pgn_games.specs.Reading.{tokens_left}
use Rattle.system_io.specs.declared.output.WriteFault.{WriteFault}
use Rattle.timeline.specs.Events.{Event, Wrote}
use Rattle.timeline.specs.Outsides.{AddsSome, Outside}
use Rattle.timeline.specs.declared.stream.Stream.TheVariants.{Output}
use Rattle.pgn_teller.specs.declared.reporting.GameReporter.{GameReporter}
use Rattle.pgn_teller.specs.declared.reporting.GameText.{GameText}
use Rattle.pgn_teller.specs.declared.reporting.Step.{Step}
use Rattle.pgn_teller.specs.declared.reporting.Step.TheVariants as step
use Rattle.pgn_teller.specs.declared.sums.Sums.{Sums}
use Rattle.pgn_teller.specs.Ratings.{Ruling}
use Rattle.pgn_teller.specs.Reports.{IsPgnLine, Line, ReadsNext, ReadsTables, ReportsGame, ReportsGames, Stage, StopsAt, Terms, Turn, begun, gone_out, is_written, line_out, terms_of, turn_events}

-- the text of a line, with its line feed, and what counts of it
abbrev pub IsTextOf : Line → GameText → Type 0
IsTextOf l g = (g.text.items ≡ ended l.words) × (g.mark ≡ l.mark)

-- the line of a game is made, behind what is read for it; or memory is refused
abbrev pub MakesText : {K : Type 0} → Ruling K → K → K → Terms → ℕ → ReadingTold → Result GameText AllocError → List Event → Type 0
MakesText Rules k next t number reading (Ok g) tables = (l : Line) × IsPgnLine Rules k next t number reading tables l × IsTextOf l g
MakesText Rules k next t number reading (Err e) tables = ReadsTables Rules k reading tables

-- a text is written, and goes out
abbrev pub GoesOut : List ℕ → List Event → Option (Unit {0}) → Type 0
GoesOut text events is = events ≡ gone_out text

-- a last text is written, and this is what it comes to
abbrev pub WritesLast : List ℕ → Bool → List Event → Option Bool → Type 0
WritesLast text well events is = (events ≡ Wrote Output text ∷ []) × (is ≡ Some well)

abbrev pub text_out : Bool → GameText → List Event
text_out only_differing g = if is_written only_differing g.mark then gone_out g.text.items else []

abbrev pub WritesText : Bool → GameText → List Event → Option Step → Type 0
WritesText only_differing g events is = (events ≡ text_out only_differing g) × (is ≡ Some (step.Reported g.mark))

-- a game that was read is reported; or memory is refused for its line, which is printed
pub data ReportsReading {K : Type 0} (Rules : Ruling K) (k next : K) (t : Terms) (number : ℕ) (reading : ReadingTold) (events : List Event) (is : Option Step) : Type 0 where
  LineOf : (tables : List Event) (l : Line) → IsPgnLine Rules k next t number reading tables l → events ≡ tables ++ line_out t.only_differing l → is ≡ Some (step.Reported l.mark) → ReportsReading Rules k next t number reading events is
  NoLine : (tables : List Event) → ReadsTables Rules k reading tables → events ≡ tables ++ printed (refused_memory ∷ []) → is ≡ Some step.Cut → ReportsReading Rules k next t number reading events is

-- how far a reader of an input has come, of whose lines these bytes are left
abbrev pub stage_of : {K : Type 0} → Option (List ℕ) → PgnReader → K → Stage K
stage_of bytes reader k = record { bytes = bytes; tokens = tokens_left bytes reader; known = k }

-- what comes of the next game: it is reported; or there is none; or why no more is reported is printed
pub data ReportsNext {K : Type 0} (Rules : Ruling K) (t : Terms) (Fails : Type 0) (number : ℕ) (at now : Stage K) (events : List Event) (is : Option Step) : Type 0 where
  IsReported : (g : Turn) → ReportsGame Rules t number at now g → events ≡ turn_events t g → is ≡ Some (step.Reported g.line.mark) → ReportsNext Rules t Fails number at now events is
  IsEnded : ReadsNext at now None events → is ≡ Some step.Ended → ReportsNext Rules t Fails number at now events is
  IsCut : (words : List ℕ) (last : List Event) → StopsAt Rules Fails at words last → events ≡ last ++ printed (words ∷ []) → is ≡ Some step.Cut → ReportsNext Rules t Fails number at now events is

-- ---- from one moment to another

-- what rules the games is seen by how it rules and by what it knows
module _ {T P F K S L R N : Type 0} (o : Outside T P F K S L) (rules : R → Ruling N) (known : R → N) (reporter : GameReporter R) where
  -- the line of a game is made
  abbrev pub MakesIn : GameReporter R → ℕ → ReadingTold → T → T → Result GameText AllocError → Type 0
  MakesIn reporter' number reading t t' result =
      AddsSome o t t' (MakesText (rules reporter.ruler) (known reporter.ruler) (known reporter'.ruler) (terms_of reporter) number reading result)

  -- a game that was read is reported
  abbrev pub ReportsOneIn : GameReporter R → ℕ → ReadingTold → T → T → Result Step WriteFault → Type 0
  ReportsOneIn reporter' number reading t t' result =
      AddsSome o t t' (Performs (ReportsReading (rules reporter.ruler) (known reporter.ruler) (known reporter'.ruler) (terms_of reporter) number reading) result)

  -- the next game is read and reported, by a reader that has come so far
  abbrev pub Next : GameReporter R → ℕ → L → L → PgnReader → PgnReader → T → T → Result Step WriteFault → Type 0
  Next reporter' number lines lines' at at' t t' result =
      AddsSome o t t' (Performs (ReportsNext (rules reporter.ruler) (terms_of reporter) (o.lines lines).fails number (stage_of (o.lines lines).left at (known reporter.ruler)) (stage_of (o.lines lines').left at' (known reporter'.ruler))) result)

  -- all games of lines are, of which none is read yet
  abbrev pub ReportsAllIn : L → T → T → Result (Option Sums) WriteFault → Type 0
  ReportsAllIn lines t t' result =
      AddsSome o t t' (Performs (ReportsGames (rules reporter.ruler) (terms_of reporter) (o.lines lines).fails (begun (o.lines lines).left (known reporter.ruler))) result)
