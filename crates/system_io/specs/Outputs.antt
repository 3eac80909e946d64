-- Where output goes, and how a program ends (this project's own).
use Rattle.std.specs.Prelude.{◌≡◌, ◌⊎◌, ℕ, List, [], take, Option, Result, Ok, Err}
use Rattle.std.specs.Io.KnownBytes.{Appends}
use Rattle.std.specs.Io.Buffered.{writer_buffer, writer_inner}
use Rattle.system_io.specs.declared.output.BufferedOutput.{BufferedOutput}

-- what is known of an output
pub record OutputFacts : Type 1 where
  -- all that was written has gone out
  pub gone : Type 0
  -- some of what was written can't go out
  pub stuck : Type 0
  -- a write may be refused
  pub refuses : Type 0

-- what has gone out isn't stuck
abbrev pub NotBoth : OutputFacts → Type 0
NotBoth out = out.gone → out.stuck → ⊥

-- a writer in memory that holds nothing back: what was written is out at once, and nothing gets stuck; memory for more may be
-- refused
abbrev pub holds_nothing_back : OutputFacts
holds_nothing_back = record { gone = Unit {0}; stuck = ⊥; refuses = Unit {0} }

-- bytes were written to their end, or a front of them was written
abbrev pub WritesFront : {T E : Type 0} → Option (List ℕ) → Option (List ℕ) → List ℕ → Result T E → Type 0
WritesFront old new bytes (Ok x) = Appends old new bytes
WritesFront old new bytes (Err e) = (n : ℕ) × Appends old new (take n bytes)

-- over this writer nothing waits
pub record StartsEmpty {W : Type 0} (writer : W) (out : BufferedOutput W) : Type 0 where
  pub over : writer_inner out.buffer ≡ writer
  pub empty : writer_buffer out.buffer ≡ []

-- the status of an answer that has gone out, or 1 where it is stuck or was not written; all that was written has gone out, or is
-- stuck
abbrev pub HasEnded : {F : Type 0} → OutputFacts → Result ℕ F → ℕ → Type 0
HasEnded out (Ok answered) status = ((status ≡ answered) × out.gone) ⊎ ((status ≡ 1) × out.stuck)
HasEnded out (Err fault) status = (status ≡ 1) × (out.gone ⊎ out.stuck)
