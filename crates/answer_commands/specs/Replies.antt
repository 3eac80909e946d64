-- What a command does that writes one reply by what it reads, as events (this project's own).
use Rattle.std.specs.Prelude.{◌≡◌, ◌++◌, ℕ, List, [], ◌∷◌, Option, Some, Ok, Err}
use Rattle.answer_parts.specs.Reply.{Reply}
use Rattle.line_teller.specs.ToldLines.{cut_words, refused_memory}
use Rattle.system_io.specs.Disks.{DiskFacts}
use Rattle.system_io.specs.declared.reading.ReadFault.{ReadFault}
use Rattle.task_files.specs.Given.{Given}
use Rattle.task_files.specs.InputReads.{Reading, ReadsGiven, Then}
use Rattle.task_files.specs.Sources.{Named}
use Rattle.timeline.specs.Events.{Event}
use Rattle.timeline.specs.Outsides.{Outside}
use Rattle.answer_parts.specs.Printing.{PrintsReply, printed}

-- a task: what is read for it, its reply by that, and when that takes memory
pub record Replying (A : Type 0) : Type 1 where
  pub Reads : Reading A
  pub IsReply : A → Reply → Type 0
  pub TakesMemory : A → Type 0

-- what the task names is read, and then its reply is written; or that memory was refused for the reply; or why something can't be read
pub data RepliesTo {A : Type 0} (t : Replying A) (events : List Event) (status : Option ℕ) : Type 0 where
  Replied : (given : A) (reading writing : List Event) (reply : Reply) → t.Reads (Ok given) reading → t.IsReply given reply → PrintsReply reply writing status → events ≡ reading ++ writing → RepliesTo t events status
  NoRoomToReply : (given : A) (reading : List Event) → t.Reads (Ok given) reading → t.TakesMemory given → events ≡ reading ++ printed (refused_memory ∷ []) → status ≡ Some 1 → RepliesTo t events status
  Unread : (fault : ReadFault) (reading : List Event) → t.Reads (Err fault) reading → events ≡ reading ++ printed (cut_words fault ∷ []) → status ≡ Some 1 → RepliesTo t events status

-- a task by what it names: each thing is read once
pub record Asking : Type 1 where
  pub named : Named
  pub IsReply : Given → Reply → Type 0
  pub TakesMemory : Given → Type 0

abbrev pub replying_by : {T P F K S L : Type 0} → Outside T P F K S L → Asking → Replying Given
replying_by o t = record { Reads = ReadsGiven o t.named; IsReply = t.IsReply; TakesMemory = t.TakesMemory }

abbrev pub RepliesBy : {T P F K S L : Type 0} → Outside T P F K S L → Asking → List Event → Option ℕ → Type 0
RepliesBy o t = RepliesTo (replying_by o t)

-- a task whose reply is made while more is read: what is read first, and its reply by that, with what is read for the reply
pub record Making : Type 1 where
  pub named : Named
  pub Makes : DiskFacts → Given → Reading Reply

abbrev pub making_by : {T P F K S L : Type 0} → Outside T P F K S L → Making → Replying Reply
making_by o t = record { Reads = Then (ReadsGiven o t.named) (t.Makes o.disk); IsReply = λ reply r. r ≡ reply; TakesMemory = λ _. ⊥ }

abbrev pub MakesReply : {T P F K S L : Type 0} → Outside T P F K S L → Making → List Event → Option ℕ → Type 0
MakesReply o t = RepliesTo (making_by o t)
