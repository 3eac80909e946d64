-- Objects of JSON for texts of positions.
use Rattle.std.proofs.Common.{◌≡◌, ℕ, Bool, List, subst}
use Rattle.board_core.specs.declared.parts.Parts.{Parts}
use Rattle.board_core.specs.Position.{IsPosition}
use Rattle.fen_text.specs.Fen.{SpellsPosition}
use Rattle.judge_core.specs.Tables.{Tables}
use Rattle.judge_core.specs.declared.ask.Ask.{Ask}
use Rattle.json_lines.specs.Told.{ForNone, ForPosition, IsLineFor, IsLineOf}
use Rattle.json_lines.specs.declared.told.JsonLine.{JsonLine}
use Rattle.table_commands.specs.Inside.JsonLines.{IsPositionLine}
use Rattle.answer_parts.specs.Reply.{IsText}

-- the text spells that position
pub is_text : (bytes text : List ℕ) (p : Parts) → bytes ≡ text → SpellsPosition bytes p → IsPosition p → IsText text
is_text bytes text p same spells legal = (p, subst (λ t. SpellsPosition t p) same spells, legal)

-- a line that is not that of a fault is that of a text's position
pub has_text : (text : List ℕ) (ask : Ask) (with_moves : Bool) (tables : Tables) (l : JsonLine) → IsLineFor text (IsLineOf ask with_moves tables) l → IsPositionLine l → IsText text
has_text text ask with_moves tables l (ForPosition p spells legal is) h = (p, spells, legal)
has_text text ask with_moves tables l (ForNone fault first is) h = absurd (subst IsPositionLine is h)
