-- Replies: a text and a status (this project's own).
use Rattle.std.specs.Prelude.{◌≡◌, ℕ, Bool, List, Result, Ok, Err, if◌then◌else◌}
use Rattle.board_core.specs.declared.parts.Parts.{Parts}
use Rattle.board_core.specs.Position.{IsPosition}
use Rattle.fen_text.specs.declared.fault.FenFault.{FenFault}
use Rattle.fen_text.specs.Fen.{SpellsPosition, IsFirstFenFault}
use Rattle.judge_core.specs.Tables.{Tables}
use Rattle.move_msg.specs.TextLines.{ended}
use Rattle.system_io.specs.declared.output.WriteFault.{WriteFault}
use Rattle.answer_parts.specs.Lines.{refused_fen}

pub record Reply : Type 0 where
  pub text : List ℕ
  pub status : ℕ

-- 0 where all is done, 1 where something is refused
abbrev pub status_if : Bool → ℕ
status_if done = if done then 0 else 1

-- a refusal is one line, with status 1
abbrev pub refusal_reply : List ℕ → Reply
refusal_reply words = record { text = ended words; status = 1 }

-- a reply by these tables, or the words that refuse them
abbrev pub ByTables : Result Tables (List ℕ) → (Tables → Parts → Reply → Type 0) → Parts → Reply → Type 0
ByTables (Ok tables) IsAnswer p r = IsAnswer tables p r
ByTables (Err words) IsAnswer p r = r ≡ refusal_reply words

-- the reply to the position that a text spells, or the refusal of the text before all else
pub data IsForText (text : List ℕ) (IsAnswer : Parts → Reply → Type 0) (r : Reply) : Type 0 where
  ForPosition : (p : Parts) → SpellsPosition text p → IsPosition p → IsAnswer p r → IsForText text IsAnswer r
  ForNone : (fault : FenFault) → IsFirstFenFault text fault → r ≡ refusal_reply (refused_fen fault) → IsForText text IsAnswer r

-- the text spells a position
abbrev pub IsText : List ℕ → Type 0
IsText text = (p : Parts) × SpellsPosition text p × IsPosition p
