-- The lines of a server, and how they go out, over one timeline (this project's own).
use Rattle.std.specs.Prelude.{◌≡◌, ◌⊎◌, ◌++◌, ℕ, Bool, true, false, List, [], ◌∷◌, cond, take, Option, Some, None}
use Rattle.std.specs.Str.{bytes_eq}
use Rattle.arbiter_core.specs.declared.fault.DeliverFault.TheVariants as deliver
use Rattle.arbiter_server.specs.LineLogs.{Remembers, form_of, picked, picked_text}
use Rattle.arbiter_server.specs.ServedLines.{heard_line}
use Rattle.arbiter_server.specs.Told.{line_words}
use Rattle.arbiter_server.specs.declared.datagram_report.DatagramReport.{DatagramReport}
use Rattle.arbiter_server.specs.declared.datagram_report.DatagramReport.TheVariants as report
use Rattle.arbiter_server.specs.declared.fault.OpenGameError.{OpenGameError}
use Rattle.arbiter_server.specs.declared.fault.OpenGameError.TheVariants as unopened
use Rattle.arbiter_server.specs.declared.line.Line.{Line}
use Rattle.arbiter_server.specs.declared.line.Line.TheVariants as line
use Rattle.arbiter_server.specs.declared.line_log.LogForm.{LogForm}
use Rattle.move_msg.specs.TextLines.{ended}
use Rattle.timeline.specs.Events.{Event, Flushed, Refused, Wrote}
use Rattle.timeline.specs.Outsides.{Outside}
use Rattle.timeline.specs.declared.stream.Stream.TheVariants.{Output}
use Rattle.game_server.specs.declared.lines.Lines.{Lines}
use Rattle.game_server.specs.declared.lines.Lines.TheVariants as lines

-- ---- what a line says

-- of which games lines are written: of any, each with its stamp, as a log of this form has them; or all lines of the one game with this
-- stamp, without it
pub data LineForm : Type 0 where
  OfGames : (form : LogForm) → LineForm
  OfOne : (stamp : List ℕ) → LineForm

-- of the one game: why it isn't open
abbrev pub unopened_report : OpenGameError → DatagramReport
unopened_report unopened.Keeper = report.KeeperLost
unopened_report unopened.NotOpen = report.Refused deliver.OutOfMemory
unopened_report unopened.NoGame = report.Refused deliver.OutOfMemory
unopened_report unopened.OtherGame = report.Refused deliver.OutOfMemory
unopened_report (unopened.BadGame number) = report.Refused deliver.OutOfMemory
unopened_report unopened.OutOfMemory = report.Refused deliver.OutOfMemory

-- a message of another game is a stranger's; where its record can't be kept, its keeper is lost
abbrev pub one_report : List ℕ → Line → DatagramReport
one_report own (line.Answered stamp heard) = cond (bytes_eq stamp own) heard (report.Refused deliver.Stranger)
one_report own (line.Unopened stamp why) = cond (bytes_eq stamp own) (unopened_report why) (report.Refused deliver.Stranger)
one_report own (line.Unread fault) = report.Refused (deliver.NotAMessage fault)
one_report own line.PortLost = report.PortLost
one_report own line.StoreLost = report.KeeperLost
one_report own line.MemoryLost = report.Refused deliver.OutOfMemory

-- the text that is written of a line after these texts, the latest first, if one is
abbrev pub written_text : LineForm → List (List ℕ) → Line → Option (List ℕ)
written_text (OfGames form) before l = picked_text (picked form before (line_words l))
written_text (OfOne own) before l = Some (ended (heard_line (one_report own l)))

-- the texts that came before what follows some lines
abbrev pub after_lines : List (List ℕ) → List Line → List (List ℕ)
after_lines before [] = before
after_lines before (l ∷ ls) = after_lines (ended (line_words l) ∷ before) ls

-- the form of lines
abbrev pub form_in : Lines → LineForm
form_in (lines.OfGames log) = OfGames (form_of log)
form_in (lines.OfOne stamp) = OfOne stamp

-- it is known of these texts what has to be
abbrev pub KnowsLines : Lines → List (List ℕ) → Type 0
KnowsLines (lines.OfGames log) before = Remembers log before
KnowsLines (lines.OfOne stamp) before = Unit {0}

-- ---- how lines go out

-- a text was written and went out at once; or a front of it was written, since a write was refused; or it can't go out
pub data TextEnd : Type 0 where
  WentOut : TextEnd
  WasCut : (count : ℕ) → TextEnd
  WasStuck : TextEnd

abbrev pub is_out : TextEnd → Bool
is_out WentOut = true
is_out (WasCut count) = false
is_out WasStuck = false

abbrev pub text_events : List ℕ → TextEnd → List Event
text_events text WentOut = Wrote Output text ∷ Flushed Output ∷ []
text_events text (WasCut count) = Wrote Output (take count text) ∷ Refused Output ∷ []
text_events text WasStuck = Wrote Output text ∷ Refused Output ∷ []

-- a text went out, if there is one
abbrev pub text_out : Option (List ℕ) → List Event
text_out None = []
text_out (Some text) = text_events text WentOut

-- what is written of these lines after those texts went out
abbrev pub lines_out : LineForm → List (List ℕ) → List Line → List Event
lines_out form before [] = []
lines_out form before (l ∷ ls) = text_out (written_text form before l) ++ lines_out form (ended (line_words l) ∷ before) ls

-- at one of these lines the output failed: those before it went out, and nothing is written of those behind it
pub record LinesCut (form : LineForm) (before : List (List ℕ)) (all : List Line) (events : List Event) : Type 0 where
  pub first : List Line
  pub at : Line
  pub rest : List Line
  pub are : all ≡ first ++ at ∷ rest
  pub text : List ℕ
  pub its : written_text form (after_lines before first) at ≡ Some text
  pub end : TextEnd
  pub failed : is_out end ≡ false
  pub events_are : events ≡ lines_out form before first ++ text_events text end

-- by these events lines went out, or the output failed at one of them
abbrev pub WritesLines : LineForm → List (List ℕ) → List Line → Bool → List Event → Type 0
WritesLines form before all true events = events ≡ lines_out form before all
WritesLines form before all false events = LinesCut form before all events

-- at some moment a write might be refused, or what was written couldn't go out
pub record OutputFails {T P F K S L : Type 0} (o : Outside T P F K S L) : Type 0 where
  pub at : T
  pub so : (o.output at Output).refuses ⊎ (o.output at Output).stuck
