-- One step of a run, by what happens outside; cited by private functions alone.
use Rattle.std.specs.Prelude.{◌≡◌, ◌++◌, ◌-◌, ℕ, Bool, List, [], ◌∷◌, length, Option, Some, None, IfSome, Result, Ok}
use Rattle.std.specs.List.{AllByRecursion}
use Rattle.board_core.specs.declared.moves.Move.{Move as Moves}
use Rattle.board_core.specs.declared.parts.Parts.{Parts}
use Rattle.move_msg.specs.declared.stamp.Stamp.{Stamp}
use Rattle.system_io.specs.declared.output.WriteFault.{WriteFault}
use Rattle.system_io.specs.LineReaders.{ReadsLine}
use Rattle.system_io.specs.declared.reading.ReadFault.{ReadFault}
use Rattle.system_io.specs.Ports.{Passing}
use Rattle.timeline.specs.Events.{Event, LineRead}
use Rattle.timeline.specs.Outsides.{Outside}
use Rattle.source_core.specs.Heard.{Happened, IsHearing, Moment, heard, moment, sender_after}
use Rattle.source_core.specs.Inside.Steps.{no_cause}
use Rattle.source_core.specs.Reports.{Knows}
use Rattle.source_core.specs.Runs.{EndsRun, IsMoveTurn, MoveTurn, OnlySends, RunState, RunsTo, SourceTerms, read_and_sent, sent_again, source_terms}
use Rattle.source_core.specs.Sendings.{ClosesSo, causes, last_of}
use Rattle.source_core.specs.Turns.{HasSpelling, HasWaited, WaitsSoLong}
use Rattle.source_core.specs.declared.course.Course.{Course}
use Rattle.source_core.specs.declared.course.Reading.{Reading}
use Rattle.source_core.specs.declared.exchange.Exchange.{Exchange}
use Rattle.source_core.specs.declared.known.Known.{Known}
use Rattle.source_core.specs.declared.lines.End.{End}
use Rattle.source_core.specs.declared.lines.End.TheVariants as at_end
use Rattle.source_core.specs.declared.lines.Ended.{Ended}
use Rattle.source_core.specs.declared.turn.SendConfig.{SendConfig}

-- where the code stands: the position, the last acknowledged move, what is known of the arbiters, and the moment
pub record CourseAt : Type 0 where
  pub position : Parts
  pub last : Option Moves
  pub known : Known
  pub at : Moment

abbrev pub course_at : {T P F K S L : Type 0} → Outside T P F K S L → T → Course P → CourseAt
course_at o t course = record { position = course.position; last = course.last; known = course.exchange.known; at = moment o t course.exchange.port }

-- the code stands where a run does, with so many moves acknowledged, at a moment
pub record StandsWhere (g : SourceTerms) (at : RunState) (number : ℕ) (c : CourseAt) (now : Moment) : Type 0 where
  pub position : at.position ≡ c.position
  pub knows : Knows g.terms.stamp (heard at.events) c.known
  pub count : number ≡ length at.moves
  pub last : c.last ≡ last_of at.moves
  pub to : now.to ≡ g.to
  pub sender : now.sender ≡ sender_after g.sender at.events

-- one more turn up to its line: a move was acknowledged, or the run ends
unfoldable pub TakesStep : (ReadFault → Type 0) → SourceTerms → RunState → Option (List ℕ) → Moment → CourseAt → Option End → Type 0
TakesStep cause g at input old c None =
    (t : MoveTurn) × IsMoveTurn g at t × (t.after.input ≡ input) × (t.after.position ≡ c.position) × (Some t.move ≡ c.last) × Happened old c.at (read_and_sent g at t) × Knows g.terms.stamp (heard t.after.events) c.known
TakesStep cause g at input old c (Some end) =
    (sent : List Moves) × (more : List Event) × EndsRun cause g at sent more end × Happened old c.at more × (end ≡ at_end.Lost → Knows g.terms.stamp (heard (at.events ++ more)) c.known)

-- wherever a run stands there
abbrev pub StepsFrom : (ReadFault → Type 0) → SendConfig → ℕ → Option (List ℕ) → Option (List ℕ) → Moment → CourseAt → CourseAt → Option End → Type 0
StepsFrom cause terms number left left' old c c' end =
    (g : SourceTerms) (at : RunState) → g.terms ≡ terms → at.input ≡ left → StandsWhere g at number c old → TakesStep cause g at left' old c' end

-- the same behind a line that was read
abbrev pub TakesLine : SendConfig → ℕ → List ℕ → CourseAt → CourseAt → Option End → Type 0
TakesLine terms number line c c' end =
    (left left' : Option (List ℕ)) (had_come : Bool) (old : Moment) → ReadsLine left left' line → Happened old c.at (LineRead (Ok (Some line)) had_come ∷ []) → StepsFrom no_cause terms number left left' old c c' end

-- behind the input's end the last move is sent once more, and what still comes in time is received
pub record ClosesWith (terms : SendConfig) (number : ℕ) (c c' : CourseAt) (end : End) : Type 0 where
  pub came : List Event
  pub spelling : IfSome c.last (HasSpelling terms.stamp (number - 1))
  pub hearing : AllByRecursion IsHearing came
  pub happened : Happened c.at c'.at (sent_again c.at.sender c.at.to terms.stamp (number - 1) c.last ++ came)
  pub waits : (before : List Passing) → Knows terms.stamp before c.known → WaitsSoLong terms 0 number before (heard came)
  pub waited : (count : ℕ) → end ≡ at_end.Open count → HasWaited (heard came)
  pub stands : (before : List Passing) → Knows terms.stamp before c.known → ClosesSo terms.origin terms.stamp number c.position (before ++ heard came) end

-- no arbiter has reported anything
abbrev pub nothing_known : Known
nothing_known = record { a = record { count = 0; ruling = None; from = None }; b = record { count = 0; ruling = None; from = None } }

-- nothing is sent yet
abbrev pub IsBegun : {P : Type 0} → Course P → Type 0
IsBegun c = (c.last ≡ None) × (c.exchange.known ≡ nothing_known)

-- a run, and all that it sends
abbrev pub RunsAndSends : (ReadFault → Type 0) → SourceTerms → Parts → Option (List ℕ) → Result Ended WriteFault → List Event → Type 0
RunsAndSends cause g start input r events = (moves : List Moves) × RunsTo cause g start input moves r events × OnlySends g.terms.stamp moves events

-- ---- so between two moments of a course

-- the move of a line is sent
abbrev pub TakesLineAt : {T P F K S L : Type 0} → Outside T P F K S L → T → T → Course P → Course P → SendConfig → ℕ → List ℕ → Option End → Type 0
TakesLineAt o old new c c' terms number line end = TakesLine terms number line (course_at o old c) (course_at o new c') end

-- the last acknowledged move is sent once more
abbrev pub SendsLast : {T P F K S L : Type 0} → Outside T P F K S L → T → T → Exchange P → Exchange P → Stamp → ℕ → Option Moves → Type 0
SendsLast o old new e e' stamp number last = Happened (moment o old e.port) (moment o new e'.port) (sent_again (o.port e.port).sender (o.port e.port).to stamp number last)

abbrev pub ClosesAt : {T P F K S L : Type 0} → Outside T P F K S L → T → T → Course P → Course P → SendConfig → ℕ → End → Type 0
ClosesAt o old new c c' terms number end = ClosesWith terms number (course_at o old c) (course_at o new c') end

-- the next line is read, and its move sent
abbrev pub TakesStepAt : {T P F K S L : Type 0} → Outside T P F K S L → T → T → Course P → Course P → SendConfig → ℕ → Reading L → Reading L → Option End → Type 0
TakesStepAt o old new c c' terms number r r' end =
    StepsFrom (causes (o.lines r.lines).fails (o.lines r.lines).takes_memory) terms number (o.lines r.lines).left (o.lines r'.lines).left (moment o old c.exchange.port) (course_at o old c) (course_at o new c') end

-- all lines are read so
abbrev pub RunsFrom : {T P F K S L : Type 0} → Outside T P F K S L → SendConfig → Reading L → Course P → Result Ended WriteFault → List Event → Type 0
RunsFrom o terms r c result = RunsAndSends (causes (o.lines r.lines).fails (o.lines r.lines).takes_memory) (source_terms terms (o.port c.exchange.port)) c.position (o.lines r.lines).left result
