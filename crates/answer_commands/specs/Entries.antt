-- A list of games that are entered, a line a game (this project's own): the name, the FEN text of the start and the delay, parted by
-- tabs.
use Rattle.std.specs.Prelude.{◌≡◌, ◌≢◌, ℕ, List, [], ◌∷◌, length}
use Rattle.std.specs.Fmt.{decimal}
use Rattle.fen_text.specs.Cuts.{cut_at}
use Rattle.fen_text.specs.Fen.{IsFirstFenFault, SpellsPosition}
use Rattle.move_msg.specs.Stamps.{IsGameName}
use Rattle.arbiter_server.specs.GameFiles.{GameContents, IsPossibleGame}
use Rattle.answer_parts.specs.declared.answers.refusals.EntryFault.{EntryFault}
use Rattle.answer_parts.specs.declared.answers.refusals.EntryFault.TheVariants.{Fields, Name, Start, Delay, Keeper, Exists}
use Rattle.command_line.specs.Numbers.{IsDelayDigit}
use Rattle.answer_parts.specs.Reply.{IsText}

-- ---- a line

-- it has these three fields, parted by two tabs
abbrev pub HasThreeFields : List ℕ → List ℕ → List ℕ → List ℕ → Type 0
HasThreeFields line name start delay = cut_at 9 line ≡ name ∷ start ∷ delay ∷ []

-- it spells this game
pub record SpellsEntry (line : List ℕ) (g : GameContents) : Type 0 where
  pub start_text : List ℕ
  pub fields : HasThreeFields line g.name start_text (decimal g.delay)
  pub start : SpellsPosition start_text g.start
  pub game : IsPossibleGame g

-- ---- what is at fault

-- the first thing that is wrong with the line: what comes before it is as it has to be; a file is no fault of a line
abbrev pub IsFirstEntryFault : List ℕ → EntryFault → Type 0
IsFirstEntryFault line Fields = length (cut_at 9 line) ≢ 3
IsFirstEntryFault line Name =
    (name start delay : List ℕ) × HasThreeFields line name start delay × (IsGameName name → ⊥)
IsFirstEntryFault line (Start fault) =
    (name start delay : List ℕ) × HasThreeFields line name start delay × IsGameName name × IsFirstFenFault start fault
IsFirstEntryFault line Delay =
    (name start delay : List ℕ) × HasThreeFields line name start delay × IsGameName name × IsText start × ((n : ℕ) → IsDelayDigit delay n → ⊥)
IsFirstEntryFault line Keeper = ⊥
IsFirstEntryFault line Exists = ⊥
