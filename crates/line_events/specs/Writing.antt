-- Answers that are written at once, and what a command does that reads something first (this project's own).
use Rattle.std.specs.Prelude.{◌≡◌, ◌++◌, ℕ, Bool, List, [], ◌∷◌, Option, Some, Result, Ok, Err}
use Rattle.std.specs.List.{flat_map}
use Rattle.line_teller.specs.ToldLines.{LineTold, cut_words}
use Rattle.line_teller.specs.declared.told_lines.TellFault.{TellFault}
use Rattle.line_teller.specs.declared.told_lines.TellFault.TheVariants as tell
use Rattle.move_msg.specs.TextLines.{ended}
use Rattle.system_io.specs.declared.reading.ReadFault.{ReadFault}
use Rattle.task_files.specs.InputReads.{Reading}
use Rattle.timeline.specs.Events.{Event}
use Rattle.line_events.specs.LineEvents.{Answering, Told}
use Rattle.answer_parts.specs.Printing.{IsCutIn, WritesText, printed}

-- a text is written, and this is whether the answer is complete; or a front of the text is, where the output failed
abbrev pub WritesAnswer : List ℕ → Bool → Result Bool TellFault → List Event → Type 0
WritesAnswer text done (Ok is) events = WritesText text events × (is ≡ done)
WritesAnswer text done (Err tell.OutOfMemory) events = ⊥
WritesAnswer text done (Err tell.Io) events = (all : List Event) × WritesText text all × IsCutIn all events

-- these words are the line that is told, in some pieces
abbrev pub IsLineTold : (LineTold → Type 0) → Told → Type 0
IsLineTold Is told = (words : List ℕ) × Is (record { words = words; done = told.done }) × (flat_map (λ piece. piece) told.pieces ≡ ended words)

-- each line is told so, and for some of these lines memory may be refused; nothing is read for an answer
abbrev pub at_once : (List ℕ → LineTold → Type 0) → (List ℕ → Type 0) → Answering (Unit {0})
at_once Tells Takes = record {
  Tells = λ k next line told reading. IsLineTold (Tells line) told × (reading ≡ []);
  TakesMemory = λ k line reading. Takes line × (reading ≡ []);
}

-- each line is told so by what is known, with what is read for it, and with what is known then; and where memory may be refused
abbrev pub while_reading : {K : Type 0} → (K → K → List ℕ → LineTold → List Event → Type 0) → (K → List ℕ → List Event → Type 0) → Answering K
while_reading Tells Takes = record {
  Tells = λ k next line told reading. IsLineTold (λ l. Tells k next line l reading) told;
  TakesMemory = Takes;
}

-- something is read first, and then this is done by it; or why it can't be read is told
pub data DoesBy {A : Type 0} (Reads : Reading A) (Does : A → List Event → Option ℕ → Type 0) (events : List Event) (status : Option ℕ) : Type 0 where
  IsDone : (a : A) (reading then : List Event) → Reads (Ok a) reading → Does a then status → events ≡ reading ++ then → DoesBy Reads Does events status
  IsUnread : (fault : ReadFault) (reading : List Event) → Reads (Err fault) reading → events ≡ reading ++ printed (cut_words fault ∷ []) → status ≡ Some 1 → DoesBy Reads Does events status
