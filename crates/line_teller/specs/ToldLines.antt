-- Lines that are read and lines that are written, and that a writer failed (this project's own).
use Rattle.std.specs.Prelude.{◌≡◌, ◌⊎◌, ◌++◌, ℕ, Bool, List, [], ◌∷◌, Option, codes}
use Rattle.std.specs.Fmt.{decimal}
use Rattle.system_io.specs.Outputs.{OutputFacts}
use Rattle.system_io.specs.LineReaders.{LineFacts, ReadsLine}
use Rattle.system_io.specs.declared.reading.ReadFault.{ReadFault}
use Rattle.system_io.specs.declared.reading.ReadFault.TheVariants as read

-- what is told of a line, and whether all of it is told
pub record LineTold : Type 0 where
  pub words : List ℕ
  pub done : Bool

-- A writer of this type failed: at some moment a write to it might be refused, or some of what was written couldn't go out. Nothing ties the
-- moment to a call: a body that knows no more of its writer has it only from a call that failed.
pub record HasFailed {W : Type 0} (facts : W → OutputFacts) : Type 0 where
  pub at : W
  pub so : (facts at).refuses ⊎ (facts at).stuck

-- how many lines are done on the way
abbrev pub done_words : ℕ → List ℕ
done_words lines = decimal lines ++ codes " done"

abbrev pub refused_memory : List ℕ
refused_memory = codes "refused memory"

abbrev pub refused_files : List ℕ
refused_files = codes "refused files"

-- the line that says why no more is read
abbrev pub cut_words : ReadFault → List ℕ
cut_words read.Unreadable = refused_files
cut_words read.OutOfMemory = refused_memory

-- these lines were read, one after the other
unfoldable pub AreRead : Option (List ℕ) → List (List ℕ) → Option (List ℕ) → Type 0
AreRead old [] new = new ≡ old
AreRead old (line ∷ lines) new = (mid : Option (List ℕ)) × ReadsLine old mid line × AreRead mid lines new

-- why an input can't be read further: it fails; or reading on takes memory, which was refused
abbrev pub stops_by : LineFacts → ReadFault → Type 0
stops_by input read.Unreadable = input.fails
stops_by input read.OutOfMemory = input.takes_memory
