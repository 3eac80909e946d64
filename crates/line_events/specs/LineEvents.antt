-- The answers to the lines of the input as they come, as events: each has gone out before the next line is awaited (this project's own).
use Rattle.std.specs.Prelude.{◌≡◌, ◌≢◌, ◌≤◌, ◌⊎◌, ◌+◌, ◌-◌, ◌^◌, ◌%◌, ◌++◌, ℕ, Bool, true, false, List, [], ◌∷◌, length, map, Option, Some, None, IfSome, IsSome, Result, Ok, Err}
use Rattle.std.specs.Io.KnownBytes.{IsAtEnd}
use Rattle.std.specs.List.{list_all}
use Rattle.line_teller.specs.ToldLines.{AreRead, cut_words, done_words, refused_files, refused_memory}
use Rattle.line_teller.specs.declared.told_lines.TellFault.{TellFault}
use Rattle.line_teller.specs.declared.told_lines.TellFault.TheVariants as tell
use Rattle.move_msg.specs.TextLines.{ended, lines_in}
use Rattle.system_io.specs.Inputs.{InputFacts}
use Rattle.system_io.specs.LineReaders.{ReadsLine}
use Rattle.system_io.specs.declared.output.WriteFault.{WriteFault}
use Rattle.system_io.specs.declared.reading.ReadFault.{ReadFault}
use Rattle.system_io.specs.declared.reading.ReadFault.TheVariants as read
use Rattle.task_files.specs.TableLooks.{SaysProgress}
use Rattle.timeline.specs.Events.{Event, Flushed, FromInput, LineRead, LinesOpened, Wrote}
use Rattle.timeline.specs.Outsides.{AddsSome, Outside}
use Rattle.timeline.specs.declared.stream.Stream.TheVariants.{Output}
use Rattle.answer_parts.specs.Printing.{IsCutIn, Performs, printed}
use Rattle.answer_parts.specs.Reply.{status_if}
use Rattle.line_events.specs.declared.lines.Step.{Step}
use Rattle.line_events.specs.declared.lines.Step.TheVariants as step

-- what is told of a line: the texts that are written, each at once, and whether all of it is told
pub record Told : Type 0 where
  pub pieces : List (List ℕ)
  pub done : Bool

abbrev pub written : List (List ℕ) → List Event
written pieces = map (Wrote Output) pieces

-- how lines are answered, by what is known so far, such as the tables that are open
pub record Answering (K : Type 0) : Type 1 where
  -- this is told of a line by what is known before it, behind these events: what is read for it, and nothing else; and this is known after it
  pub Tells : K → K → List ℕ → Told → List Event → Type 0
  -- behind these, memory may be refused to the answer
  pub TakesMemory : K → List ℕ → List Event → Type 0

-- whatever is answered later could have been answered before
pub record AnswersNoMore {K : Type 0} (before after : Answering K) : Type 0 where
  pub tells : (k next : K) (line : List ℕ) (told : Told) (reading : List Event) → after.Tells k next line told reading → before.Tells k next line told reading
  pub memory : (k : K) (line : List ℕ) (reading : List Event) → after.TakesMemory k line reading → before.TakesMemory k line reading

-- What is done for a line that was read. What its answer asks for is read, and then the answer is written; where the output failed, it is a front
-- of that. Or memory was refused to the answer, and nothing is written.
abbrev pub AnswersLine : {K : Type 0} → Answering K → K → K → List ℕ → Result Bool TellFault → List Event → Type 0
AnswersLine a k next line (Ok done) events =
    (reading : List Event) × (pieces : List (List ℕ)) × a.Tells k next line (record { pieces = pieces; done = done }) reading × (events ≡ reading ++ written pieces)
AnswersLine a k next line (Err tell.OutOfMemory) events = a.TakesMemory k line events
AnswersLine a k next line (Err tell.Io) events = (reading : List Event) × (told : Told) × a.Tells k next line told reading × IsCutIn (reading ++ written told.pieces) events

-- ---- one line

-- what was written goes out before a line is awaited, but not where all of it has come
abbrev pub before_line : Bool → List Event
before_line true = []
before_line false = Flushed Output ∷ []

-- the next line is read, or there is none, or why there is none
abbrev pub asks : Bool → Result (Option (List ℕ)) ReadFault → List Event
asks had_come got = before_line had_come ++ LineRead got had_come ∷ []

-- a line that is told: whether all of it had come before, what is read for its answer, and what is known after it
pub record Turn (K : Type 0) : Type 0 where
  pub line : List ℕ
  pub had_come : Bool
  pub reading : List Event
  pub told : Told
  pub after : K

-- the line is read, then what its answer asks for, and then the answer is written
abbrev pub turn_events : {K : Type 0} → Turn K → List Event
turn_events t = asks t.had_come (Ok (Some t.line)) ++ (t.reading ++ written t.told.pieces)

-- What comes of the next line: it is answered; or memory was refused to the answer, which is told; or there is none; or why it can't be
-- read is told. Or what was written can't go out, and it isn't asked for.
pub data TakesTurn {K : Type 0} (a : Answering K) (k next : K) (Stops : ReadFault → Type 0) (left now : Option (List ℕ)) (events : List Event) (is : Option Step) : Type 0 where
  Answered : (t : Turn K) → ReadsLine left now t.line → a.Tells k t.after t.line t.told t.reading → t.after ≡ next → events ≡ turn_events t → is ≡ Some (step.Told t.told.done) → TakesTurn a k next Stops left now events is
  NoRoom : (line : List ℕ) (had_come : Bool) (reading : List Event) → ReadsLine left now line → a.TakesMemory k line reading → events ≡ asks had_come (Ok (Some line)) ++ (reading ++ printed (refused_memory ∷ [])) → is ≡ Some step.Cut → TakesTurn a k next Stops left now events is
  AtEnd : (had_come : Bool) → IsAtEnd left → events ≡ asks had_come (Ok None) → is ≡ Some step.Ended → TakesTurn a k next Stops left now events is
  Unread : (fault : ReadFault) (had_come : Bool) → Stops fault → events ≡ asks had_come (Err fault) ++ printed (cut_words fault ∷ []) → is ≡ Some step.Cut → TakesTurn a k next Stops left now events is
  Waits : events ≡ before_line false → is ≡ None → TakesTurn a k next Stops left now events is

-- ---- lines, one after the other

-- after every 10,000 lines, where progress is wanted, a line of it goes out on standard error
pub data MayTellProgress (is_wanted : Bool) (lines : ℕ) (events : List Event) : Type 0 where
  NotDue : (is_wanted ≡ false) ⊎ (lines % 10000 ≢ 0) → events ≡ [] → MayTellProgress is_wanted lines events
  Due : is_wanted ≡ true → lines % 10000 ≡ 0 → SaysProgress (ended (done_words lines)) events → MayTellProgress is_wanted lines events

-- lines are told in turn by what is known at first, where so many were told before
abbrev pub AreTold : {K : Type 0} → Answering K → Bool → ℕ → K → List (Turn K) → List Event → Type 0
AreTold a progress before k [] events = events ≡ []
AreTold a progress before k (t ∷ turns) events =
    (said rest : List Event) × a.Tells k t.after t.line t.told t.reading × MayTellProgress progress (before + 1) said
    × AreTold a progress (before + 1) t.after turns rest × (events ≡ turn_events t ++ (said ++ rest))

-- what is known behind them
abbrev pub known_after : {K : Type 0} → K → List (Turn K) → K
known_after k [] = k
known_after k (t ∷ turns) = known_after t.after turns

-- these lines were read of what is left, and this is left then; where the bytes are known, they are the first lines of the text
pub record AreLinesOf (left : Option (List ℕ)) (lines : List (List ℕ)) (now : Option (List ℕ)) : Type 0 where
  pub read : AreRead left lines now
  pub text : IfSome left (λ text. IfSome now (λ rest. lines_in text ≡ lines ++ lines_in rest))

abbrev pub lines_told : {K : Type 0} → List (Turn K) → List (List ℕ)
lines_told turns = map (λ t. t.line) turns

abbrev pub are_done : {K : Type 0} → List (Turn K) → Bool
are_done turns = list_all (λ t. t.told.done) turns

-- whether all are told completely, where no line follows; none where one may
abbrev pub done_by : {K : Type 0} → List (Turn K) → Option Step → Option Bool
done_by turns (Some step.Ended) = Some (are_done turns)
done_by turns (Some step.Cut) = Some false
done_by turns (Some (step.Told done)) = None
done_by turns None = None

-- the lines before are told in turn, and this comes of the next; or 2^64 - 1 lines are told, and no more is read
pub data AnswersLines {K : Type 0} (a : Answering K) (k : K) (progress : Bool) (Stops : ReadFault → Type 0) (left : Option (List ℕ)) (events : List Event) (done : Option Bool) : Type 0 where
  UpTo : (turns : List (Turn K)) (next : K) (mid now : Option (List ℕ)) (before last : List Event) (is : Option Step) → AreTold a progress 0 k turns before → AreLinesOf left (lines_told turns) mid → TakesTurn a (known_after k turns) next Stops mid now last is → events ≡ before ++ last → done ≡ done_by turns is → AnswersLines a k progress Stops left events done
  TooMany : (turns : List (Turn K)) (now : Option (List ℕ)) (before : List Event) → AreTold a progress 0 k turns before → AreLinesOf left (lines_told turns) now → 2 ^ 64 - 1 ≤ length turns → events ≡ before ++ printed (refused_files ∷ []) → done ≡ Some false → AnswersLines a k progress Stops left events done

-- ---- the input

-- why the input stops: it fails; or reading it takes memory, which was refused
abbrev pub input_stops : InputFacts → ReadFault → Type 0
input_stops input read.Unreadable = input.fails
input_stops input read.OutOfMemory = input.takes_memory

-- the bytes of its lines, where they are known; they are, where the input's are stated, unless it fails
pub record IsLeftOf (input : InputFacts) (left : Option (List ℕ)) : Type 0 where
  pub given : IfSome left input.gives
  pub known : input.is_told ≡ true → input.fails ⊎ IsSome left

-- the status of what was told: 0 where all is told completely
abbrev pub told_status : Option Bool → Option ℕ
told_status None = None
told_status (Some done) = Some (status_if done)

-- the lines of the input are opened, and then answered in turn; or memory was refused for that, which is told
pub data AnswersInput {K : Type 0} (input : InputFacts) (a : Answering K) (k : K) (progress : Bool) (events : List Event) (status : Option ℕ) : Type 0 where
  LinesAnswered : (left : Option (List ℕ)) (then : List Event) (done : Option Bool) → IsLeftOf input left → AnswersLines a k progress (input_stops input) left then done → events ≡ LinesOpened FromInput true ∷ then → status ≡ told_status done → AnswersInput input a k progress events status
  NoLines : input.takes_memory → events ≡ LinesOpened FromInput false ∷ printed (refused_memory ∷ []) → status ≡ Some 1 → AnswersInput input a k progress events status

-- from one moment to another the lines of the input are answered, and nothing else happens; where the output failed, a front of that does
abbrev pub AnswersInputLines : {T P F K S L N : Type 0} → Outside T P F K S L → Answering N → N → Bool → T → T → Result ℕ WriteFault → Type 0
AnswersInputLines o a known progress t t' result = AddsSome o t t' (Performs (AnswersInput o.input a known progress) result)
