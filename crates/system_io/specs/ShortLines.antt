-- An input whose long lines are cut (this project's own).
use Rattle.std.specs.Prelude.{◌+◌, ◌<◌, ℕ, List, [], ◌∷◌, Option, Some, None, Result, MatchResult, length, option_map, take, ◌≤◌, if◌then◌else◌, ◌==◌, nat_lt, nat_le}
use Rattle.std.specs.Io.KnownBytes.{Consumes, IsAtEnd, Keeps}
use Rattle.system_io.specs.declared.bounded_lines.BoundedLines.{BoundedLines}

-- what is given for a byte, where so many came since the last line feed. Of a line 65,536 bytes are given, and a line feed; for what
-- else a longer line has nothing is
abbrev pub given_for : ℕ → ℕ → Option ℕ
given_for came byte =
    if byte == 10 then (if nat_le came 65536 then Some 10 else None) else if nat_lt came 65536 then Some byte else if came == 65536 then Some 10 else None

-- how many bytes came since the last line feed after this byte, of a longer line 65,537
abbrev pub unended_after : ℕ → ℕ → ℕ
unended_after came byte = if byte == 10 then 0 else if nat_lt 65536 came then came else came + 1

-- this in front of those, if there is anything
abbrev pub in_front : Option ℕ → List ℕ → List ℕ
in_front None rest = rest
in_front (Some byte) rest = byte ∷ rest

-- what is given for bytes, one after another
unfoldable pub short_lines : ℕ → List ℕ → List ℕ
short_lines came [] = []
short_lines came (byte ∷ bytes) = in_front (given_for came byte) (short_lines (unended_after came byte) bytes)

-- how many bytes came since the last line feed after these
unfoldable pub unended_after_all : ℕ → List ℕ → ℕ
unended_after_all came [] = came
unended_after_all came (byte ∷ bytes) = unended_after_all (unended_after came byte) bytes

-- what a reader of bounded lines still gives, where it is known what is left to read
abbrev pub given_left : {R : Type 0} → (R → Option (List ℕ)) → BoundedLines R → Option (List ℕ)
given_left left lines = option_map (short_lines lines.came) (left lines.reader)

-- so many bytes at the front of a buffer are given; or none came
abbrev pub GivesOrEnds : Option (List ℕ) → Option (List ℕ) → List ℕ → Option ℕ → Type 0
GivesOrEnds old new buf (Some n) = (n ≤ length buf) × Consumes old new (take n buf)
GivesOrEnds old new buf None = Keeps old new × (0 < length buf → IsAtEnd new)

-- bytes were read, and these are given for them; or none came, as at the end; or the read failed
abbrev pub ReadsOn : {E : Type 0} → Option (List ℕ) → Option (List ℕ) → Result (Option ℕ) E → List ℕ → Type 0
ReadsOn old new result buf = MatchResult result (GivesOrEnds old new buf) (λ _. Keeps old new)
