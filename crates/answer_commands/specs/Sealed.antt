-- Tasks whose ports are sealed by the keys of a file (this project's own).
use Rattle.std.specs.Prelude.{◌≡◌, ◌++◌, ℕ, List, [], ◌∷◌, Option, Some, None, Result, Ok, Err, codes}
use Rattle.std.specs.Fmt.{decimal}
use Rattle.answer_commands.specs.Answers.{Answers, key_of}
use Rattle.answer_commands.specs.Endings.{Ends}
use Rattle.answer_commands.specs.declared.answering.AnswerTask.{AnswerTask}
use Rattle.answer_parts.specs.Lines.{refusal_words}
use Rattle.answer_parts.specs.Printing.{printed}
use Rattle.answer_parts.specs.declared.answers.refusals.Refusal.{Refusal}
use Rattle.answer_parts.specs.declared.answers.refusals.Refusal.TheVariants as refusal
use Rattle.sealed_port.specs.KeyedSystems.{keyed_outside}
use Rattle.sealed_port.specs.declared.seal_port.Keys.{Keys}
use Rattle.answer_commands.specs.KeyReads.{ReadsKeys}
use Rattle.timeline.specs.Events.{Event, Noted}
use Rattle.timeline.specs.Outsides.{AddsSome, Outside}

-- ---- why there are no keys

abbrev pub shared_key : List ℕ → List ℕ
shared_key path = path ++ codes ": the group or others have rights to it"

abbrev pub line_at_fault : List ℕ → ℕ → List ℕ
line_at_fault path number = path ++ (codes ": line " ++ (decimal number ++ codes " is no key"))

-- the line that is noted; of a file that can't be read the system has said so
abbrev pub key_note : List ℕ → Refusal → Option (List ℕ)
key_note path refusal.SharedKey = Some (shared_key path)
key_note path (refusal.Key number) = Some (line_at_fault path number)
key_note path _ = None

-- it is noted, unless memory for the line was refused, which isn't known here
pub data NotesKeys (path : List ℕ) (why : Refusal) (events : List Event) : Type 0 where
  IsNoted : (line : List ℕ) → key_note path why ≡ Some line → events ≡ Noted line ∷ [] → NotesKeys path why events
  NotNoted : events ≡ [] → NotesKeys path why events

-- it is noted, and then it is written alone
pub record RefusesKeys (path : List ℕ) (why : Refusal) (events : List Event) (status : Option ℕ) : Type 0 where
  pub noting : List Event
  pub notes : NotesKeys path why noting
  pub all : events ≡ noting ++ printed (refusal_words why ∷ [])
  pub is : status ≡ Some 1

-- ---- all of it

-- The file of keys is read, and then the task is answered over ports that are sealed by them: what happens is as it is seen through them,
-- which is nothing any more once it was noted that a datagram was too long to be sealed (`keyed_events`). Or why there are none is written.
pub data AnswersSealed {T P F K S L : Type 0} (t : AnswerTask) (path : List ℕ) (o : Outside T P F K S L) (before after : T) (status : ℕ) : Type 0 where
  BySeal : (keys : Keys) (mid : T) → AddsSome o before mid (ReadsKeys o.disk path (Ok keys)) → Answers t (keyed_outside keys o) mid after status → AnswersSealed t path o before after status
  NoKeys : (why : Refusal) (mid : T) → AddsSome o before mid (ReadsKeys o.disk path (Err why)) → AddsSome o mid after (Ends o after (RefusesKeys path why) status) → AnswersSealed t path o before after status

-- THE CONTRACT OF THE COMMANDS: the task, all that is known outside, what happened before and after, and the status. Keys come before all else.
pub data AnswersByKey {T P F K S L : Type 0} (t : AnswerTask) (o : Outside T P F K S L) (before after : T) (status : ℕ) : Type 0 where
  Bare : key_of t ≡ None → Answers t o before after status → AnswersByKey t o before after status
  Sealed : (path : List ℕ) → key_of t ≡ Some path → AnswersSealed t path o before after status → AnswersByKey t o before after status
