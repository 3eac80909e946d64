-- `moves [--san] FEN`: the legal moves of a position (this project's own).
use Rattle.std.specs.Prelude.{◌++◌, ℕ, Bool, true, false, List, [], ◌∷◌, map, Option}
use Rattle.answer_parts.specs.Lines.{refused_fen}
use Rattle.board_core.specs.ComputedMoves.{legal_moves}
use Rattle.board_core.specs.Position.{IsPosition}
use Rattle.board_core.specs.declared.moves.Move.{Move}
use Rattle.board_core.specs.declared.parts.Parts.{Parts}
use Rattle.command_line.specs.declared.commands.moves.Moves.{Moves}
use Rattle.fen_text.specs.Coordinates.{move_text}
use Rattle.fen_text.specs.Fen.{IsFirstFenFault, SpellsPosition}
use Rattle.fen_text.specs.declared.fault.FenFault.{FenFault}
use Rattle.line_teller.specs.ToldLines.{refused_memory}
use Rattle.san_text.specs.Written.{san_of}
use Rattle.timeline.specs.Events.{Event}
use Rattle.answer_parts.specs.Printing.{Prints}

-- a move in coordinates; with the flag its text in algebraic notation stands behind a tab
abbrev pub move_line : Bool → Parts → Move → List ℕ
move_line false p m = move_text m
move_line true p m = move_text m ++ 9 ∷ san_of p m

-- the legal moves, one a line
unfoldable pub move_lines : Bool → Parts → List (List ℕ)
move_lines san p = map (move_line san p) (legal_moves p)

-- they are written, and nothing is read; or the text is no position, which is told before all else; or memory was refused for them
pub data PrintsMoves (t : Moves) (events : List Event) (status : Option ℕ) : Type 0 where
  OfPosition : (p : Parts) → SpellsPosition t.fen.now p → IsPosition p → Prints (move_lines t.san p) 0 events status → PrintsMoves t events status
  OfNone : (fault : FenFault) → IsFirstFenFault t.fen.now fault → Prints (refused_fen fault ∷ []) 1 events status → PrintsMoves t events status
  NoRoomForMoves : (p : Parts) → SpellsPosition t.fen.now p → IsPosition p → Prints (refused_memory ∷ []) 1 events status → PrintsMoves t events status
