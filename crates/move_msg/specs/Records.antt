-- Records of a game as bytes (record format, versions 1 and 2).
use Rattle.std.specs.Prelude.{◌≡◌, ◌≤◌, ◌<◌, ◌+◌, ◌*◌, ◌++◌, ◌⊎◌, ◌==◌, if◌then◌else◌, ℕ, List, [], ◌∷◌, Option, Some, None, length, take, drop, slice_index, codes}
use Rattle.std.specs.Int.{w16, w32, to_be_bytes, from_be_bytes}
use Rattle.board_core.specs.declared.moves.Move.{Move}
use Rattle.board_core.specs.declared.verdict.Verdict.{Verdict}
use Rattle.board_core.specs.Verdicts.{verdict_code}
use Rattle.move_msg.specs.declared.record_bytes.RecordFault.{RecordFault}
use Rattle.move_msg.specs.declared.record_bytes.RecordFault.TheVariants.{BadLength, BadHead, BadField, OutOfMemory}
use Rattle.move_msg.specs.declared.record_bytes.Record.{Record}
use Rattle.move_msg.specs.Words.{SpellsWord}
use Rattle.board_core.specs.Delays.{most_delay}
use Rattle.move_msg.specs.Numbers.{most_moves}

-- the words of the moves one after the other, two bytes each
abbrev pub SpellsMoves : List ℕ → List Move → Type 0
SpellsMoves t [] = t ≡ []
SpellsMoves t (m ∷ ms) = (word : ℕ) × (rest : List ℕ) × SpellsWord word m × (t ≡ to_be_bytes w16 word ++ rest) × SpellsMoves rest ms

-- the words of these moves were appended
abbrev pub AppendsMoves : List ℕ → List ℕ → List Move → Type 0
AppendsMoves old new ms = (words : List ℕ) × SpellsMoves words ms × (new ≡ old ++ words)

-- 0 is no verdict
abbrev pub code_or_none : Option Verdict → ℕ
code_or_none None = 0
code_or_none (Some verdict) = verdict_code verdict

-- the code of the verdict, the number of moves and their words
unfoldable pub body_text : ℕ → ℕ → List ℕ → List ℕ
body_text code count words = code ∷ to_be_bytes w32 count ++ words

-- version 2: two letters and the version, the stamp, the delay and the body
unfoldable pub record_frame : List ℕ → ℕ → List ℕ → List ℕ
record_frame stamp delay body = 83 ∷ 82 ∷ 2 ∷ stamp ++ delay ∷ body

-- a record of version 2 whose words are these
abbrev pub framed : Record → List ℕ → List ℕ
framed r words = record_frame r.stamp r.delay (body_text (code_or_none r.verdict) (length r.moves) words)

-- version 1 has no delay
unfoldable pub old_frame : List ℕ → List ℕ → List ℕ
old_frame stamp body = 83 ∷ 82 ∷ 1 ∷ stamp ++ body

-- what has a spelling: a delay in its range, and not too many moves
abbrev pub IsRecord : Record → Type 0
IsRecord r = (r.delay ≤ most_delay) × (length r.moves ≤ most_moves) × (length r.stamp ≡ 16)

-- the record with further moves, and with this verdict after them
abbrev pub gone_on : Record → List Move → Option Verdict → Record
gone_on r more verdict = record { stamp = r.stamp; delay = r.delay; verdict = verdict; moves = r.moves ++ more }

-- the record of its first moves, so many, without a verdict
abbrev pub cut_back : Record → ℕ → Record
cut_back r count = record { stamp = r.stamp; delay = r.delay; verdict = None; moves = take count r.moves }

-- the bytes are the verdict and the moves of the record
pub record SpellsBody (t : List ℕ) (r : Record) : Type 0 where
  pub words : List ℕ
  pub moves : SpellsMoves words r.moves
  pub text : t ≡ body_text (code_or_none r.verdict) (length r.moves) words

-- the bytes are those that are written of the record: version 2
pub record WritesRecord (t : List ℕ) (r : Record) : Type 0 where
  pub in_range : IsRecord r
  pub body : List ℕ
  pub rest : SpellsBody body r
  pub text : t ≡ record_frame r.stamp r.delay body

-- the bytes are read as the record: version 2, or version 1 where the delay is 0
pub record SpellsRecord (t : List ℕ) (r : Record) : Type 0 where
  pub in_range : IsRecord r
  pub body : List ℕ
  pub rest : SpellsBody body r
  pub text : (t ≡ record_frame r.stamp r.delay body) ⊎ ((r.delay ≡ 0) × (t ≡ old_frame r.stamp body))

-- S, R and a version
abbrev pub HasRecordHead : List ℕ → Type 0
HasRecordHead t = (slice_index t 0 ≡ 83) × (slice_index t 1 ≡ 82) × ((slice_index t 2 ≡ 1) ⊎ (slice_index t 2 ≡ 2))

-- the delay, which version 1 has not
abbrev pub delay_in : List ℕ → ℕ
delay_in t = if slice_index t 2 == 1 then 0 else slice_index t 19

-- what follows the stamp and, in version 2, the delay
abbrev pub body_in : List ℕ → List ℕ
body_in t = if slice_index t 2 == 1 then drop 19 t else drop 20 t

-- in a body the code of the verdict, the number of moves and their words
abbrev pub body_verdict : List ℕ → ℕ
body_verdict body = slice_index body 0

abbrev pub body_count : List ℕ → ℕ
body_count body = from_be_bytes w32 (take 4 (drop 1 body))

abbrev pub words_at : List ℕ → List ℕ
words_at body = drop 5 body

-- the head, and as many bytes as stand before the words: 24 in version 1, 25 in version 2
pub record HasRecordFront (t : List ℕ) : Type 0 where
  pub long : 24 ≤ length t
  pub head : HasRecordHead t
  pub body : 5 ≤ length (body_in t)

-- delay, code and number are in their ranges
abbrev pub HasCounts : List ℕ → Type 0
HasCounts t = (delay_in t ≤ most_delay) × (body_verdict (body_in t) ≤ 7) × (body_count (body_in t) ≤ most_moves)

-- there are two bytes for each move
abbrev pub HasRoom : List ℕ → Type 0
HasRoom t = length (body_in t) ≡ 5 + 2 * body_count (body_in t)

-- all but the words is well formed; the words are not examined
pub record HasRecordLayout (t : List ℕ) : Type 0 where
  pub front : HasRecordFront t
  pub counts : HasCounts t
  pub exact : HasRoom t

-- The first fault of bytes, in this order: fewer than 24; no head; in version 2 fewer than 25; a number out of range. Then
-- another length than the number of moves gives, and a word that is no move.
abbrev pub IsFirstRecordFault : List ℕ → RecordFault → Type 0
IsFirstRecordFault t BadLength =
    (length t < 24)
    ⊎ ((24 ≤ length t) × HasRecordHead t × (length (body_in t) < 5))
    ⊎ (HasRecordFront t × HasCounts t × (HasRoom t → ⊥))
IsFirstRecordFault t BadHead = (24 ≤ length t) × (HasRecordHead t → ⊥)
IsFirstRecordFault t BadField = (HasRecordFront t × (HasCounts t → ⊥)) ⊎ (HasRecordLayout t × ((r : Record) → SpellsRecord t r → ⊥))
IsFirstRecordFault t OutOfMemory = ⊥

-- the names of the faults
abbrev pub record_fault_name : RecordFault → List ℕ
record_fault_name BadLength = codes "BadLength"
record_fault_name BadHead = codes "BadHead"
record_fault_name BadField = codes "BadField"
record_fault_name OutOfMemory = codes "OutOfMemory"
