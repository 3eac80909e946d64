-- What a call does for one line; cited by private functions alone.
use Rattle.std.specs.Prelude.{◌≡◌, ◌++◌, ℕ, Bool, List, [], ◌∷◌, Option, Some, Result}
use Rattle.line_teller.specs.ToldLines.{refused_memory, stops_by}
use Rattle.system_io.specs.declared.output.WriteFault.{WriteFault}
use Rattle.timeline.specs.Events.{Event, has_line_feed}
use Rattle.timeline.specs.Outsides.{AddsSome, Outside}
use Rattle.line_events.specs.LineEvents.{Answering, AnswersLines, TakesTurn, Told, before_line, written}
use Rattle.answer_parts.specs.Printing.{Performs, printed}
use Rattle.line_events.specs.declared.lines.Step.{Step}
use Rattle.line_events.specs.declared.lines.Step.TheVariants as step

-- what was written goes out before a line is awaited
abbrev pub GoesOut : Bool → List Event → Option (Unit {0}) → Type 0
GoesOut had_come events is = events ≡ before_line had_come

-- a line that was read is answered; or memory was refused to its answer, which is told
pub data AnswersRead {K : Type 0} (a : Answering K) (k next : K) (line : List ℕ) (events : List Event) (is : Option Step) : Type 0 where
  IsTold : (reading : List Event) (told : Told) → a.Tells k next line told reading → events ≡ reading ++ written told.pieces → is ≡ Some (step.Told told.done) → AnswersRead a k next line events is
  IsRefused : (reading : List Event) → a.TakesMemory k line reading → events ≡ reading ++ printed (refused_memory ∷ []) → is ≡ Some step.Cut → AnswersRead a k next line events is

-- ---- from one moment to another

-- what was written goes out, unless all of the next line has come
abbrev pub FlushesIn : {T P F K S L : Type 0} → Outside T P F K S L → L → T → T → Result (Unit {0}) WriteFault → Type 0
FlushesIn o lines t t' result = AddsSome o t t' (Performs (GoesOut (has_line_feed (o.lines lines).ahead)) result)

-- what answers lines is seen by how it answers and by what it knows
module _ {T P F K S L A N : Type 0} (o : Outside T P F K S L) (answering : A → Answering N) (known : A → N) (answerer : A) where
  -- a line that was read is answered
  abbrev pub AnswersReadIn : A → List ℕ → T → T → Result Step WriteFault → Type 0
  AnswersReadIn answerer' line t t' result =
      AddsSome o t t' (Performs (AnswersRead (answering answerer) (known answerer) (known answerer') line) result)

  -- the next line is read and answered
  abbrev pub AnswersNextIn : A → L → L → T → T → Result Step WriteFault → Type 0
  AnswersNextIn answerer' lines lines' t t' result =
      AddsSome o t t' (Performs (TakesTurn (answering answerer) (known answerer) (known answerer') (stops_by (o.lines lines)) (o.lines lines).left (o.lines lines').left) result)

  -- all lines are
  abbrev pub AnswersAllIn : Bool → L → T → T → Result Bool WriteFault → Type 0
  AnswersAllIn progress lines t t' result =
      AddsSome o t t' (Performs (AnswersLines (answering answerer) (known answerer) progress (stops_by (o.lines lines)) (o.lines lines).left) result)
