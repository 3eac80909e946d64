-- The text of a position in the query of a URL (URL Standard, section 5, "application/x-www-form-urlencoded"), or in a line of a body; as
-- in the tablebase API of Lichess a `_` stands for a space, and a text of four fields for one with a clock of 0 and the first move.
use Rattle.std.specs.Prelude.{ℕ, List, [], ◌∷◌, ◌++◌, Option, Some, None, length, map, codes, if◌then◌else◌, ◌==◌}
use Rattle.std.specs.List.{filter}
use Rattle.std.specs.Str.{bytes_eq}
use Rattle.std.specs.Str.Lossy.{utf8_lossy}
use Rattle.form_urlencoded.specs.Form.{raw_pairs, decode}
use Rattle.move_msg.specs.TextLines.{lines_in}

-- a space for each `_`
abbrev pub spaced : ℕ → ℕ
spaced byte = if byte == 95 then 32 else byte

-- a text with three spaces has four fields: both counters are missing
abbrev pub with_counters : List ℕ → List ℕ
with_counters text = if length (filter (λ b. b == 32) text) == 3 then text ++ codes " 0 1" else text

-- the text of a position, as it is asked for
abbrev pub position_text : List ℕ → List ℕ
position_text words = with_counters (map spaced words)

-- that of a value of a query
abbrev pub text_of : List ℕ → List ℕ
text_of value = position_text (utf8_lossy (decode value))

-- the value of the first pair with the name `fen`
abbrev pub first_fen : List (List ℕ × List ℕ) → Option (List ℕ)
first_fen [] = None
first_fen (pair ∷ pairs) = if bytes_eq pair.0 (codes "fen") then Some (text_of pair.1) else first_fen pairs

-- the text that a query asks about
abbrev pub asked_text : List ℕ → Option (List ℕ)
asked_text query = first_fen (raw_pairs query)

-- the texts that a body asks about, a line each
abbrev pub asked_lines : List ℕ → List (List ℕ)
asked_lines body = map position_text (lines_in body)
