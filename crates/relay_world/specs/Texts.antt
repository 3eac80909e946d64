-- The text of a schedule (schedule format): lines that end with a line feed. The first three tell the name, the start and the
-- moves of a game, and each further one is an event. The words of a line are parted by single spaces.
use Rattle.std.specs.Prelude.{◌≡◌, ◌≢◌, ◌≤◌, ◌⊎◌, ◌++◌, ℕ, suc, List, [], ◌∷◌, length, codes, Ok}
use Rattle.hex.specs.Hex.{decode_of}
use Rattle.board_core.specs.declared.parts.Parts.{Parts}
use Rattle.board_core.specs.declared.moves.Move.{Move as Moves}
use Rattle.board_core.specs.Position.{IsPosition}
use Rattle.fen_text.specs.Coordinates.{AreMoves, SpellsMove}
use Rattle.fen_text.specs.Cuts.{cut_at}
use Rattle.fen_text.specs.Fen.{SpellsPosition}
use Rattle.fen_text.specs.Numbers.{SpellsNumber}
use Rattle.move_msg.specs.declared.arbiter_id.ArbiterId.{ArbiterId}
use Rattle.move_msg.specs.declared.arbiter_id.ArbiterId.TheVariants.{A, B}
use Rattle.move_msg.specs.Numbers.{most_moves}
use Rattle.move_msg.specs.Stamps.{IsGameName}
use Rattle.arbiter_core.specs.declared.keeper.Keep.{Keep}
use Rattle.arbiter_core.specs.declared.keeper.Keep.TheVariants.{Good, FailsOld, FailsNew}
use Rattle.relay_world.specs.declared.event.Event.{Event}
use Rattle.relay_world.specs.declared.event.Event.TheVariants.{Deliver, Noise, Restart, Ask}
use Rattle.relay_world.specs.declared.schedule.Schedule.{Schedule}

-- ---- words

abbrev pub who_word : ArbiterId → List ℕ
who_word A = codes "A"
who_word B = codes "B"

abbrev pub keep_word : Keep → List ℕ
keep_word Good = codes "good"
keep_word FailsOld = codes "old"
keep_word FailsNew = codes "new"

-- a place in the log, from 0 to 999999
abbrev pub SpellsPlace : List ℕ → ℕ → Type 0
SpellsPlace word place = SpellsNumber 999999 word place

-- two hexadecimal digits of either case for each byte, and a hyphen for no bytes
abbrev pub SpellsBytes : List ℕ → List ℕ → Type 0
SpellsBytes word [] = word ≡ codes "-"
SpellsBytes word (b ∷ bs) = decode_of word ≡ Ok (b ∷ bs)

-- ---- lines

abbrev pub IsNameLine : List ℕ → List ℕ → Type 0
IsNameLine line name = (line ≡ codes "name " ++ name) × IsGameName name

abbrev pub IsStartLine : List ℕ → Parts → Type 0
IsStartLine line start = (fen : List ℕ) × (line ≡ codes "start " ++ fen) × IsPosition start × SpellsPosition fen start

abbrev pub IsMovesLine : List ℕ → List Moves → Type 0
IsMovesLine line moves = (words : List (List ℕ)) × (cut_at 32 line ≡ codes "moves" ∷ words) × AreMoves words moves × (length moves ≤ most_moves)

-- the words of an event
abbrev pub IsEvent : List (List ℕ) → Event → Type 0
IsEvent words (Restart who keep) = words ≡ codes "restart" ∷ who_word who ∷ keep_word keep ∷ []
IsEvent words (Deliver who place keep) = (word : List ℕ) × (words ≡ codes "deliver" ∷ who_word who ∷ word ∷ keep_word keep ∷ []) × SpellsPlace word place
IsEvent words (Noise who bytes keep) = (digits : List ℕ) × (words ≡ codes "noise" ∷ who_word who ∷ digits ∷ keep_word keep ∷ []) × SpellsBytes digits bytes.items
IsEvent words (Ask who) = words ≡ codes "ask" ∷ who_word who ∷ []

abbrev pub IsEventLine : List ℕ → Event → Type 0
IsEventLine line event = IsEvent (cut_at 32 line) event

-- a line for each event, and nothing after the last line feed
abbrev pub AreEvents : List (List ℕ) → List Event → Type 0
AreEvents [] events = ⊥
AreEvents (last ∷ []) [] = last ≡ []
AreEvents (last ∷ []) (event ∷ events) = ⊥
AreEvents (line ∷ next ∷ lines) [] = ⊥
AreEvents (line ∷ next ∷ lines) (event ∷ events) = IsEventLine line event × AreEvents (next ∷ lines) events

-- ---- a schedule

-- the text is that of the schedule
pub record SpellsSchedule (text : List ℕ) (schedule : Schedule) : Type 0 where
  pub name : List ℕ
  pub start : List ℕ
  pub moves : List ℕ
  pub events : List (List ℕ)
  pub lines : cut_at 10 text ≡ name ∷ start ∷ moves ∷ events
  pub name_is : IsNameLine name schedule.name.items
  pub start_is : IsStartLine start schedule.start
  pub moves_are : IsMovesLine moves schedule.moves.items
  pub events_are : AreEvents events schedule.events.items

-- ---- where memory is taken

-- the first of these words spells a move
abbrev pub BeginsByMove : List (List ℕ) → Type 0
BeginsByMove [] = ⊥
BeginsByMove (word ∷ words) = (m : Moves) × SpellsMove word m

-- the line of moves has one
abbrev pub HasAnyMove : List ℕ → Type 0
HasAnyMove line = (words : List (List ℕ)) × (cut_at 32 line ≡ codes "moves" ∷ words) × BeginsByMove words

-- the words of noise whose bytes are told by more than a hyphen
abbrev pub TellsBytes : List (List ℕ) → Type 0
TellsBytes words = (who : ArbiterId) × (word : List ℕ) × (keep : Keep) × (words ≡ codes "noise" ∷ who_word who ∷ word ∷ keep_word keep ∷ []) × (word ≢ codes "-")

-- an event takes memory, and so do the bytes of noise
abbrev pub TakesForLine : List ℕ → Type 0
TakesForLine line = ((event : Event) × IsEventLine line event) ⊎ TellsBytes (cut_at 32 line)

-- the first line of events does
abbrev pub TakesForFirst : List (List ℕ) → Type 0
TakesForFirst [] = ⊥
TakesForFirst (last ∷ []) = ⊥
TakesForFirst (line ∷ next ∷ lines) = TakesForLine line

-- Memory is taken for the moves, for what the first event tells, and, where there are none, for the name: so only where the first
-- two lines are good, and the third has a move, or is good and the next takes memory or nothing follows.
pub record ScheduleTakesMemory (text : List ℕ) : Type 0 where
  pub name : List ℕ
  pub start : List ℕ
  pub moves : List ℕ
  pub events : List (List ℕ)
  pub lines : cut_at 10 text ≡ name ∷ start ∷ moves ∷ events
  pub name_is : (tells : List ℕ) × IsNameLine name tells
  pub start_is : (tells : Parts) × IsStartLine start tells
  pub takes : HasAnyMove moves ⊎ (((tells : List Moves) × IsMovesLine moves tells) × (TakesForFirst events ⊎ ((tells : List Event) × AreEvents events tells)))

-- ---- schedules that are one

-- one event; two lists of bytes are one where they have the same items
abbrev pub IsSameEvent : Event → Event → Type 0
IsSameEvent (Noise who bytes keep) (Noise other more how) = (who ≡ other) × (bytes.items ≡ more.items) × (keep ≡ how)
IsSameEvent e f = e ≡ f

abbrev pub AreSameEvents : List Event → List Event → Type 0
AreSameEvents [] [] = Unit {0}
AreSameEvents [] (f ∷ fs) = ⊥
AreSameEvents (e ∷ es) [] = ⊥
AreSameEvents (e ∷ es) (f ∷ fs) = IsSameEvent e f × AreSameEvents es fs

pub record IsSameSchedule (s t : Schedule) : Type 0 where
  pub name : s.name.items ≡ t.name.items
  pub start : s.start ≡ t.start
  pub moves : s.moves.items ≡ t.moves.items
  pub events : AreSameEvents s.events.items t.events.items

-- ---- the first line at fault, the lines counted from 1

-- A line that has to be there has this number: it has no line feed, or is not as it should be, or else it is and a later line
-- is the first at fault.
abbrev pub NeedsLine : (List ℕ → Type 0) → ℕ → ℕ → (List (List ℕ) → Type 0) → List (List ℕ) → Type 0
NeedsLine IsGood number k Later [] = ⊥
NeedsLine IsGood number k Later (last ∷ []) = k ≡ number
NeedsLine IsGood number k Later (line ∷ next ∷ lines) = ((k ≡ number) × (IsGood line → ⊥)) ⊎ (IsGood line × Later (next ∷ lines))

-- the same of the lines of events; after the last line feed nothing stands
abbrev pub IsBadEvent : ℕ → ℕ → List (List ℕ) → Type 0
IsBadEvent number k [] = ⊥
IsBadEvent number k (last ∷ []) = (k ≡ number) × (last ≢ [])
IsBadEvent number k (line ∷ next ∷ lines) =
    ((k ≡ number) × ((event : Event) → IsEventLine line event → ⊥))
    ⊎ (((event : Event) × IsEventLine line event) × IsBadEvent (suc number) k (next ∷ lines))

abbrev pub IsFirstBadScheduleLine : List ℕ → ℕ → Type 0
IsFirstBadScheduleLine text k =
    NeedsLine (λ line. (name : List ℕ) × IsNameLine line name) 1 k
    (NeedsLine (λ line. (start : Parts) × IsStartLine line start) 2 k
    (NeedsLine (λ line. (moves : List Moves) × IsMovesLine line moves) 3 k
    (IsBadEvent 4 k)))
    (cut_at 10 text)
