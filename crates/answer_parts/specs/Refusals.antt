-- What is gathered in a set, or refused (this project's own).
use Rattle.std.specs.Prelude.{ℕ, List, Result, Ok, Err}
use Rattle.judge_core.specs.Tables.{Tables, Holding}
use Rattle.answer_parts.specs.declared.answers.refusals.Refusal.{Refusal}
use Rattle.answer_parts.specs.declared.answers.refusals.Refusal.TheVariants as refusal
use Rattle.answer_parts.specs.Lines.{refusal_words}
use Rattle.system_io.specs.declared.reading.ReadFault.{ReadFault}
use Rattle.system_io.specs.declared.reading.ReadFault.TheVariants as read

-- why something wasn't read
abbrev pub unread_refusal : ReadFault → Refusal
unread_refusal read.Unreadable = refusal.Files
unread_refusal read.OutOfMemory = refusal.Memory

-- the tables that are in a set where nothing was refused
abbrev pub filled_unless_refused : {X : Type 0} → Result X Refusal → Tables → Result Tables (List ℕ)
filled_unless_refused (Ok x) tables = Ok tables
filled_unless_refused (Err refusal) tables = Err (refusal_words refusal)

abbrev pub tables_or_refusal : Result Holding Refusal → Result Tables (List ℕ)
tables_or_refusal (Ok set) = Ok set.tables
tables_or_refusal (Err refusal) = Err (refusal_words refusal)
