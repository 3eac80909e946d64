-- The file that tells a game (this project's own): three lines, each ended by a line feed.
use Rattle.std.specs.Prelude.{◌≡◌, ◌≢◌, ◌≤◌, ◌++◌, ℕ, List, [], ◌∷◌, codes}
use Rattle.std.specs.Fmt.{decimal}
use Rattle.board_core.specs.declared.parts.Parts.{Parts}
use Rattle.board_core.specs.Delays.{most_delay}
use Rattle.board_core.specs.Position.{IsPosition}
use Rattle.fen_text.specs.Written.{fen_of}
use Rattle.move_msg.specs.Stamps.{IsGameName}
use Rattle.move_msg.specs.TextLines.{ended, text_of}
use Rattle.arbiter_server.specs.declared.game_lines.GameFileFault.{GameFileFault}
use Rattle.arbiter_server.specs.declared.game_lines.GameFileFault.TheVariants.{Name, Start, Delay, More}

-- what the file tells: the game's name, its start, and for how many further plies a verdict by tables must hold
pub record GameContents : Type 0 where
  pub name : List ℕ
  pub start : Parts
  pub delay : ℕ

abbrev pub game_as_told : List ℕ → Parts → ℕ → GameContents
game_as_told name start delay = record { name = name; start = start; delay = delay }

-- a game may have this name, this start and this delay
pub record IsPossibleGame (g : GameContents) : Type 0 where
  pub name : IsGameName g.name
  pub start : IsPosition g.start
  pub delay : g.delay ≤ most_delay

-- ---- the lines

abbrev pub name_line : List ℕ → List ℕ
name_line name = codes "name " ++ name

-- the start as FEN text
abbrev pub start_line : Parts → List ℕ
start_line start = codes "start " ++ fen_of start

-- the delay in decimal digits
abbrev pub delay_line : ℕ → List ℕ
delay_line delay = codes "delay " ++ decimal delay

abbrev pub game_text : GameContents → List ℕ
game_text g = text_of (name_line g.name ∷ start_line g.start ∷ delay_line g.delay ∷ [])

-- the text is that of this game
abbrev pub SpellsGame : List ℕ → GameContents → Type 0
SpellsGame text g = IsPossibleGame g × (text ≡ game_text g)

-- ---- what is at fault

-- the text begins by the line of a name, a start or a delay, and goes on so
abbrev pub HasName : List ℕ → List ℕ → List ℕ → Type 0
HasName text name rest = IsGameName name × (text ≡ ended (name_line name) ++ rest)

abbrev pub HasStart : List ℕ → Parts → List ℕ → Type 0
HasStart text start rest = IsPosition start × (text ≡ ended (start_line start) ++ rest)

abbrev pub HasDelay : List ℕ → ℕ → List ℕ → Type 0
HasDelay text delay rest = (delay ≤ most_delay) × (text ≡ ended (delay_line delay) ++ rest)

-- the first line that isn't as it has to be: those before it are
abbrev pub IsFirstGameFault : List ℕ → GameFileFault → Type 0
IsFirstGameFault text Name = (name rest : List ℕ) → HasName text name rest → ⊥
IsFirstGameFault text Start =
    (name rest : List ℕ) × HasName text name rest × ((start : Parts) (last : List ℕ) → HasStart rest start last → ⊥)
IsFirstGameFault text Delay =
    (name rest : List ℕ) × HasName text name rest × ((start : Parts) × (last : List ℕ) × HasStart rest start last × ((delay : ℕ) (end : List ℕ) → HasDelay last delay end → ⊥))
IsFirstGameFault text More =
    (name rest : List ℕ) × HasName text name rest × ((start : Parts) × (last : List ℕ) × HasStart rest start last × ((delay : ℕ) × (end : List ℕ) × HasDelay last delay end × (end ≢ [])))

-- the number of the line at fault, the first being 1
abbrev pub line_number : GameFileFault → ℕ
line_number Name = 1
line_number Start = 2
line_number Delay = 3
line_number More = 4
