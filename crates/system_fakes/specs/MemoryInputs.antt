-- The facts of an input in memory (this project's own).
use Rattle.std.specs.Prelude.{◌≡◌, ◌⊎◌, ◌<◌, true, length, Some, None, cond}
use Rattle.std.proofs.Common.{◌∙◌, sym}
use Rattle.system_fakes.specs.declared.memory_input.MemoryInput.{MemoryInput}
use Rattle.system_fakes.specs.declared.memory_input.MemoryLines.{MemoryLines}
use Rattle.system_io.specs.Disks.{most_bytes}
use Rattle.system_io.specs.Inputs.{GivesOne, InputFacts}
use Rattle.system_io.specs.LineReaders.{LineFacts}

-- it fails at its end, or has too many bytes
abbrev pub HasNoEnd : MemoryInput → Type 0
HasNoEnd i = (i.fails ≡ true) ⊎ (most_bytes < length i.bytes.now)

-- it has its bytes, where it can be read to its end, and takes no memory where there are none
abbrev pub input_of : MemoryInput → InputFacts
input_of i = record { is_told = true; gives = λ bytes. (bytes ≡ i.bytes.now) × (HasNoEnd i → ⊥); fails = HasNoEnd i; takes_memory = 0 < length i.bytes.now }

-- what is left of its lines is known where they can be read to their end
abbrev pub memory_line_facts : MemoryLines → LineFacts
memory_line_facts l = record { left = cond l.fails None (Some l.left.now); ahead = l.left.now; fails = l.fails ≡ true; takes_memory = 0 < length l.left.now }

pub gives_one : (i : MemoryInput) → GivesOne (input_of i)
gives_one i = record { bytes = λ a b p q. p.0 ∙ sym q.0; given = λ bytes p fails. p.1 fails }
