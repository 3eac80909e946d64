-- The lines of a text (PGN standard, sections 4 and 6).
use Rattle.std.specs.Prelude.{◌+◌, ◌==◌, ℕ, Bool, false, List, [], ◌∷◌, length, nat_lt, if◌then◌else◌}
use Rattle.std.specs.List.{flat_map}

-- a byte before the first line
abbrev pub onto_first_line : ℕ → List (List ℕ) → List (List ℕ)
onto_first_line byte [] = (byte ∷ []) ∷ []
onto_first_line byte (line ∷ lines) = (byte ∷ line) ∷ lines

-- the lines that end at each line feed; the last one may lack it
unfoldable pub lines_of_text : List ℕ → List (List ℕ)
lines_of_text [] = []
lines_of_text (byte ∷ bytes) = if byte == 10 then [] ∷ lines_of_text bytes else onto_first_line byte (lines_of_text bytes)

-- a line with a percent sign in its first column
abbrev pub is_escaped : List ℕ → Bool
is_escaped [] = false
is_escaped (byte ∷ bytes) = byte == 37

-- a line with a percent sign in its first column is passed over (section 6). One of more than 65,535 bytes isn't read: 256, which
-- is no byte, stands for it
abbrev pub text_of_line : List ℕ → List ℕ
text_of_line line =
    if is_escaped line then [] else if nat_lt 65535 (length line) then 256 ∷ [] else line

-- a text as it is read: a line feed before each line
unfoldable pub read_text : List ℕ → List ℕ
read_text bytes = flat_map (λ line. 10 ∷ text_of_line line) (lines_of_text bytes)

-- the number of the next line, up to 2^64 - 1
abbrev pub one_more : ℕ → ℕ
one_more n = if nat_lt n 18446744073709551615 then n + 1 else n
