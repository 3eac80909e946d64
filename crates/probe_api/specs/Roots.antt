-- Root moves as plain numbers, and what a caller is told of them.
use Rattle.std.specs.Prelude.{◌≡◌, ◌≢◌, ◌⊎◌, ◌++◌, ℕ, true, false, List, length, map, drop, nat_le, pos}
use Rattle.board_core.specs.declared.parts.Parts.{Parts}
use Rattle.board_core.specs.declared.position.PositionFault.{PositionFault}
use Rattle.board_core.specs.Position.{IsPosition, IsFirstFault}
use Rattle.fen_text.specs.Fen.{SpellsPosition, IsFirstFenFault}
use Rattle.fen_text.specs.declared.fault.FenFault.{FenFault}
use Rattle.judge_core.specs.declared.root_move.Effect.{Effect}
use Rattle.judge_core.specs.declared.root_move.Effect.TheVariants.{Quiet, PawnMove, Capture, EnPassant}
use Rattle.judge_core.specs.declared.root_move.BoardState.{BoardState}
use Rattle.judge_core.specs.declared.root_move.BoardState.TheVariants.{Open, Check, Checkmate, Stalemate}
use Rattle.judge_core.specs.declared.root_move.RootMove.{RootMove}
use Rattle.judge_core.specs.declared.ask.Ask.{Ask}
use Rattle.judge_core.specs.Answers.{as_probe}
use Rattle.judge_core.specs.Ask.{IsRanked}
use Rattle.judge_core.specs.ProbeResult.{wdl_number}
use Rattle.judge_core.specs.Root.{state_of}
use Rattle.judge_core.specs.Ruling.{is_out_of_scope}
use Rattle.judge_core.specs.Tables.{Tables}
use Rattle.probe_api.specs.Boards.{shown}
use Rattle.probe_api.specs.Moves.{plain_of, count_reply}
use Rattle.probe_api.specs.Replies.{told, refused, fen_status, position_status, probe_reply}
use Rattle.probe_api.specs.declared.board.Board.{Board}
use Rattle.probe_api.specs.declared.reply.Reply.{Reply}
use Rattle.probe_api.specs.declared.root.PlainRootMove.{PlainRootMove}

abbrev pub effect_number : Effect → ℕ
effect_number Quiet = 0
effect_number PawnMove = 1
effect_number Capture = 2
effect_number EnPassant = 3

abbrev pub state_number : BoardState → ℕ
state_number Open = 0
state_number Check = 1
state_number Checkmate = 2
state_number Stalemate = 3

-- a root move as plain numbers: its value and its distance each as a probe tells it
abbrev pub plain_root : RootMove → PlainRootMove
plain_root m = record {
  played = plain_of m.played;
  effect = effect_number m.effect;
  state = state_number m.state;
  wdl = probe_reply (as_probe wdl_number m.wdl);
  dtz = probe_reply (as_probe (λ n. n) m.dtz);
}

-- these moves are put at the front of the room where it has a place for each, and their number is told
pub record ArePutFirst (moves : List RootMove) (old : List PlainRootMove) (reply : Reply) (new : List PlainRootMove) : Type 0 where
  pub count : reply ≡ count_reply (nat_le (length moves) (length old)) (length moves)
  pub written : reply.status ≡ 0 → new ≡ map plain_root moves ++ drop (length moves) old

-- the legal moves of a position in scope are put at the front of the room, the best first; where the room is too short, the position
-- out of scope or memory for a list refused, it stays as it was
pub record PutsRoot (ask : Ask) (tables : Tables) (p : Parts) (old : List PlainRootMove) (reply : Reply) (new : List PlainRootMove) : Type 0 where
  pub outside : is_out_of_scope p ≡ true → reply ≡ refused 2
  pub moves : is_out_of_scope p ≡ false → reply ≢ refused 5 → (moves : List RootMove) × IsRanked ask tables p moves × ArePutFirst moves old reply new
  pub memory : reply ≡ refused 5 → is_out_of_scope p ≡ false
  pub kept : reply.status ≢ 0 → new ≡ old

-- those of the position that a text spells, or the first fault of the text
pub record PutsRootOfText (ask : Ask) (tables : Tables) (text : List ℕ) (old : List PlainRootMove) (reply : Reply) (new : List PlainRootMove) : Type 0 where
  pub position : (p : Parts) → IsPosition p → SpellsPosition text p → PutsRoot ask tables p old reply new
  pub fault : (fault : FenFault) → IsFirstFenFault text fault → (reply ≡ refused (fen_status fault)) × (new ≡ old)
  pub one : ((p : Parts) × IsPosition p × SpellsPosition text p) ⊎ ((fault : FenFault) × IsFirstFenFault text fault)

-- those of the position that a board shows, or the first fault of what it shows
pub record PutsRootOfBoard (ask : Ask) (tables : Tables) (board : Board) (old : List PlainRootMove) (reply : Reply) (new : List PlainRootMove) : Type 0 where
  pub position : IsPosition (shown board) → PutsRoot ask tables (shown board) old reply new
  pub fault : (fault : PositionFault) → IsFirstFault (shown board) fault → (reply ≡ refused (position_status fault)) × (new ≡ old)
  pub one : IsPosition (shown board) ⊎ ((fault : PositionFault) × IsFirstFault (shown board) fault)

-- how the position that a board shows stands for its side to move, or the first fault of what it shows
pub record TellsState (board : Board) (reply : Reply) : Type 0 where
  pub position : IsPosition (shown board) → reply ≡ told (pos (state_number (state_of (shown board))))
  pub fault : (fault : PositionFault) → IsFirstFault (shown board) fault → reply ≡ refused (position_status fault)
  pub one : IsPosition (shown board) ⊎ ((fault : PositionFault) × IsFirstFault (shown board) fault)
