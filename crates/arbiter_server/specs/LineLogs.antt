-- Which lines of a server are written (this project's own). A text is that of a line, with its line feed.
use Rattle.std.specs.Prelude.{◌≡◌, ◌+◌, ◌-◌, ◌*◌, ◌%◌, ◌^◌, ◌<◌, ◌++◌, ◌&&◌, ◌==◌, ltb, ℕ, Bool, false, cond, min, List, [], ◌∷◌, Option, Some, None, is_none, codes, drop, length, get_or}
use Rattle.std.specs.Fmt.{decimal}
use Rattle.std.specs.Str.{bytes_eq}
use Rattle.std.specs.Int.{is_power_of_two}
use Rattle.move_msg.specs.TextLines.{ended}
use Rattle.arbiter_server.specs.declared.line_log.LineLog.{LineLog}
use Rattle.arbiter_server.specs.declared.line_log.LineLog.TheVariants as log
use Rattle.arbiter_server.specs.declared.line_log.LogForm.{LogForm}
use Rattle.arbiter_server.specs.declared.line_log.LogForm.TheVariants as form
use Rattle.arbiter_server.specs.Remembering.{Remembered}

-- ---- whose a line is

-- what is told of datagrams that anyone can send, by kinds: behind a stamp, and of bytes that are no message
abbrev pub common : List (List ℕ)
common = codes "refused NoGame\n" ∷ codes "refused NotOpen\n" ∷ codes "refused memory\n" ∷ []

abbrev pub of_no_message : List (List ℕ)
of_no_message =
    codes "- refused NotAMessage NoTag\n"
    ∷ codes "- refused NotAMessage BadLength\n"
    ∷ codes "- refused NotAMessage BadHead\n"
    ∷ codes "- refused NotAMessage BadKind\n"
    ∷ codes "- refused NotAMessage BadField\n" ∷ []

abbrev pub place_in : ℕ → List (List ℕ) → List ℕ → Option ℕ
place_in n [] told = None
place_in n (kind ∷ kinds) told = cond (bytes_eq told kind) (Some n) (place_in (n + 1) kinds told)

-- the number of the kind that a line is of, where there is room for a stamp by what stands behind it; any other line is of none
unfoldable pub line_kind : List ℕ → Option ℕ
line_kind text = cond (ltb (length text) 34) (place_in 3 of_no_message text) (place_in 0 common (drop 33 text))

-- the value of a hexadecimal digit
abbrev pub digit_of : ℕ → ℕ
digit_of digit = cond (ltb digit 64) (digit % 16) ((digit + 9) % 16)

-- the place at which the last line of a game is remembered: its stamp's first four digits, so that it is one of 65,536
abbrev pub remembered_place : List ℕ → ℕ
remembered_place text = cond (ltb (length text) 4) 0 (((digit_of (get_or text 0 0) * 16 + digit_of (get_or text 1 0)) * 16 + digit_of (get_or text 2 0)) * 16 + digit_of (get_or text 3 0))

-- ---- what came before, the latest first

abbrev pub is_line_kind : ℕ → Option ℕ → Bool
is_line_kind kind None = false
is_line_kind kind (Some other) = other == kind

-- how many lines of this kind there are
unfoldable pub kind_count : ℕ → List (List ℕ) → ℕ
kind_count kind [] = 0
kind_count kind (text ∷ before) = cond (is_line_kind kind (line_kind text)) (kind_count kind before + 1) (kind_count kind before)

-- a line of a game is remembered at this place
abbrev pub is_at : ℕ → List ℕ → Bool
is_at place text = is_none (line_kind text) && (remembered_place text == place)

-- the last of them, and no text where there is none
unfoldable pub last_at : ℕ → List (List ℕ) → List ℕ
last_at place [] = []
last_at place (text ∷ before) = cond (is_at place text) text (last_at place before)

-- ---- what is written

-- a line with its count
abbrev pub line_with_count : List ℕ → ℕ → List ℕ
line_with_count line count = line ++ codes " (" ++ decimal count ++ codes ")"

-- it is counted to 2^64 - 1 at most
abbrev pub most : ℕ
most = 2 ^ 64 - 1

abbrev pub one_more_line : ℕ → ℕ
one_more_line count = min (count + 1) most

-- of changes: a line of a kind with its count, where that is a power of two; and a line of a game where it isn't the last line at its
-- place
abbrev pub picked_by : List (List ℕ) → List ℕ → Option ℕ → List (List ℕ)
picked_by before line None = cond (bytes_eq (last_at (remembered_place (ended line)) before) (ended line)) [] (line ∷ [])
picked_by before line (Some kind) = cond (is_power_of_two (one_more_line (min (kind_count kind before) most))) (line_with_count line (one_more_line (min (kind_count kind before) most)) ∷ []) []

-- what is written of a line after these texts
abbrev pub picked : LogForm → List (List ℕ) → List ℕ → List (List ℕ)
picked form.All before line = line ∷ []
picked form.Nothing before line = []
picked form.Changes before line = picked_by before line (line_kind (ended line))

-- what is written of lines after these texts
unfoldable pub changes_after : List (List ℕ) → List (List ℕ) → List (List ℕ)
changes_after before [] = []
changes_after before (line ∷ lines) = picked form.Changes before line ++ changes_after (ended line ∷ before) lines

-- what a log of this form has of all lines
abbrev pub logged : LogForm → List (List ℕ) → List (List ℕ)
logged form.All lines = lines
logged form.Nothing lines = []
logged form.Changes lines = changes_after [] lines

-- ---- what is remembered

-- of each kind its count, and of each place its last line
pub record RemembersAll (r : Remembered) (before : List (List ℕ)) : Type 0 where
  pub kinds : length r.counts ≡ 8
  pub places : length r.lasts ≡ 65536
  pub counts : (kind : ℕ) → kind < 8 → get_or r.counts kind 0 ≡ min (kind_count kind before) most
  pub lasts : (place : ℕ) → place < 65536 → get_or r.lasts place [] ≡ last_at place before

-- a log knows of these texts what it has to
abbrev pub Remembers : LineLog → List (List ℕ) → Type 0
Remembers log.All before = Unit {0}
Remembers log.Nothing before = Unit {0}
Remembers (log.Changes lines) before = RemembersAll lines before

abbrev pub form_of : LineLog → LogForm
form_of log.All = form.All
form_of log.Nothing = form.Nothing
form_of (log.Changes lines) = form.Changes

-- the text of what is picked, if a line is
abbrev pub picked_text : List (List ℕ) → Option (List ℕ)
picked_text [] = None
picked_text (line ∷ lines) = Some (ended line)

-- of one line after these texts this is to be written, and the line is remembered
pub record PicksLine (before : List (List ℕ)) (old new : LineLog) (line : List ℕ) (text : Option (List ℕ)) : Type 0 where
  pub is : text ≡ picked_text (picked (form_of old) before line)
  pub after : Remembers new (ended line ∷ before)
  pub same : form_of new ≡ form_of old

-- so among changes
pub record PicksChange (before : List (List ℕ)) (new : Remembered) (line : List ℕ) (text : Option (List ℕ)) : Type 0 where
  pub is : text ≡ picked_text (picked form.Changes before line)
  pub after : RemembersAll new (ended line ∷ before)

-- a log of this form that knows of no line yet
pub record IsLogOf (form : LogForm) (log : LineLog) : Type 0 where
  pub is : form_of log ≡ form
  pub none : Remembers log []
