-- What the program does on the words that it is called with, and its status (this project's own).
use Rattle.std.specs.Prelude.{◌≡◌, ℕ, List, String, Vec, Result, Ok, Err, Some, drop, map, string_bytes}
use Rattle.std.specs.Borrow.{Bor}
use Rattle.std.specs.Global.{Global}
use Rattle.adjudicate_core.specs.Misusing.{RefusesMemory, TellsAndEnds}
use Rattle.adjudicate_core.specs.Serving.{ServesAndEnds}
use Rattle.answer_commands.specs.Answers.{over_timeline}
use Rattle.answer_commands.specs.Sealed.{AnswersByKey}
use Rattle.answer_commands.specs.declared.answering.AnswerTask.{AnswerTask}
use Rattle.command_line.specs.Tasks.{IsMisuse, IsTask, NamesNoCommand}
use Rattle.command_line.specs.declared.commands.Task.{Task}
use Rattle.command_line.specs.declared.commands.Task.TheVariants as task
use Rattle.command_line.specs.declared.commands.serve.Serve.{Serve}
use Rattle.command_line.specs.declared.words.usage.Misuse.{Misuse}
use Rattle.command_line.specs.declared.words.usage.Misuse.TheVariants as misuse
use Rattle.command_line.specs.declared.words.usage.WordsFault.{WordsFault}
use Rattle.command_line.specs.declared.words.usage.WordsFault.TheVariants.{NoText}
use Rattle.timeline.specs.Outsides.{Outside}

-- ---- words

-- words as the bytes of their texts
abbrev pub texts : List (Bor (List ℕ)) → List (List ℕ)
texts words = map (λ w. w.now) words

-- the words that a program is called with, or why there are none
abbrev pub called_by : Result (Vec (String Global) Global) WordsFault → Result (List (List ℕ)) WordsFault
called_by (Ok words) = Ok (map string_bytes words.items)
called_by (Err fault) = Err fault

-- ---- what is done

-- a task is answered: that of `serve`, or another one
pub data AnswersTask {T P F K S L : Type 0} (o : Outside T P F K S L) (before after : T) (t : Task) (status : ℕ) : Type 0 where
  ByCommand : (over : AnswerTask) → over_timeline t ≡ Some over → AnswersByKey over o before after status → AnswersTask o before after t status
  ByServer : (s : Serve) → t ≡ task.Serve s → ServesAndEnds o s before after status → AnswersTask o before after t status

-- what the program makes of the words after its own name: the answer to the task that they name; or they are misused; or memory was refused
-- before there was a task, where they name a command
pub data RunsWords {T P F K S L : Type 0} (o : Outside T P F K S L) (before after : T) (words : List (List ℕ)) (status : ℕ) : Type 0 where
  ToTask : (t : Task) → IsTask words t → AnswersTask o before after t status → RunsWords o before after words status
  Misused : (m : Misuse) → IsMisuse words m → TellsAndEnds m o before after status → RunsWords o before after words status
  NoRoomForTask : (NamesNoCommand words → ⊥) → RefusesMemory o before after status → RunsWords o before after words status

-- THE CONTRACT OF THE PROGRAM: all that is known outside, what happened before and after, the words that the program is called with, of which
-- the first is its own name, and its status. A word that is no text is a misuse; or memory was refused for the words.
pub data Runs {T P F K S L : Type 0} (o : Outside T P F K S L) (before after : T) (called : Result (List (List ℕ)) WordsFault) (status : ℕ) : Type 0 where
  OnWords : (words : List (List ℕ)) → called ≡ Ok words → RunsWords o before after (drop 1 words) status → Runs o before after called status
  OnNoText : (word : Vec ℕ Global) (bytes : Bor (List ℕ)) → called ≡ Err (NoText word) → bytes.now ≡ word.items
      → TellsAndEnds (misuse.NoText bytes) o before after status → Runs o before after called status
  NoRoomForWords : RefusesMemory o before after status → Runs o before after called status
