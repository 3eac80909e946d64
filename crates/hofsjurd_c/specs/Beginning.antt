-- Games that are begun in a handle.
use Rattle.std.specs.Prelude.{◌≡◌, ◌⊎◌, ◌≤◌, ℕ, List, Option, Some, None, Ok, Err, pos}
use Rattle.board_core.specs.declared.parts.Parts.{Parts}
use Rattle.board_core.specs.Delays.{most_delay}
use Rattle.board_core.specs.Position.{IsPosition}
use Rattle.fen_text.specs.Fen.{SpellsPosition}
use Rattle.judge_core.specs.Tables.{Tables}
use Rattle.probe_api.specs.Plays.{Begins}
use Rattle.probe_api.specs.Replies.{told, refused, verdict_number}
use Rattle.probe_api.specs.declared.reply.Reply.{Reply}
use Rattle.hofsjurd_c.specs.declared.held.Held.{Held}
use Rattle.hofsjurd_c.specs.declared.held.HeldGame.{HeldGame}

-- where a game's handle held a game before and holds one after, and the tables' handle is open, this is so of the three
abbrev pub WhereOpen : Option HeldGame → Option HeldGame → Option Held → (HeldGame → HeldGame → Held → Type 0) → Type 0
WhereOpen was is set P = (old new : HeldGame) (h : Held) → was ≡ Some old → is ≡ Some new → set ≡ Some h → P old new h

-- the handle holds a game that was begun, and its first verdict is told with status 0; or it holds none, and the status is that of the
-- refusal, or 5 where memory was refused
pub record BeginsIn (tables : Tables) (text : List ℕ) (delay : ℕ) (reply : Reply) (new : Option HeldGame) : Type 0 where
  pub game : (held : HeldGame) → new ≡ Some held → Begins tables text delay (Ok held.game) × (reply ≡ told (pos (verdict_number held.game.verdict)))
  pub none : new ≡ None → (reply ≡ refused 5) ⊎ ((status : ℕ) × (reply ≡ refused status) × Begins tables text delay (Err status))

-- a game can begin so: the delay is not above the greatest one, and the text spells a position
pub record CanBegin (text : List ℕ) (delay : ℕ) : Type 0 where
  pub soon : delay ≤ most_delay
  pub start : Parts
  pub position : IsPosition start
  pub spelled : SpellsPosition text start
