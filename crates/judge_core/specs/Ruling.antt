-- The verdict on a position (FIDE articles 5.1.1 and 5.2.1; by tables this project's own).
use Rattle.std.specs.Prelude.{◌+◌, nat_lt, nat_le, Bool, ◌||◌, Option, Some, None, Ok, Err, if◌then◌else◌}
use Rattle.board_core.specs.declared.parts.Parts.{Parts}
use Rattle.board_core.specs.declared.piece.Side.{Side}
use Rattle.board_core.specs.declared.piece.Side.TheVariants.{White, Black}
use Rattle.board_core.specs.Side.{other}
use Rattle.board_core.specs.Castling.{has_any_right}
use Rattle.board_core.specs.Computed.{is_in_check}
use Rattle.board_core.specs.ComputedMoves.{legal_moves, count_of_men}
use Rattle.judge_core.specs.declared.wdl.Wdl.TheVariants.{Loss, BlessedLoss, Draw, CursedWin, Win}
use Rattle.judge_core.specs.declared.fault.ValueFault.TheVariants.{NotCovered, Damaged}
use Rattle.board_core.specs.declared.verdict.Verdict.{Verdict}
use Rattle.board_core.specs.declared.verdict.Verdict.TheVariants.{WhiteMates, BlackMates, Stalemate, TableDraw, TableWhite, TableBlack, Stopped}
use Rattle.judge_core.specs.Values.{Reading}
use Rattle.judge_core.specs.Tables.{Tables}
use Rattle.judge_core.specs.Probing.{wdl_of}
use Rattle.board_core.specs.Ends.{has_no_move}
use Rattle.judge_core.specs.Distances.{Reach, plies, dtz_of}

-- ---- the end of a game on the board

-- the side to move is mated by the other
abbrev pub mate_of : Side → Verdict
mate_of White = BlackMates
mate_of Black = WhiteMates

-- no legal move is left: checkmate in check, else stalemate
abbrev pub end_of : Parts → Verdict
end_of p = if is_in_check p.men p.side then mate_of p.side else Stalemate

-- ---- by tables

-- the tables know no castling and no more than five men
unfoldable pub is_out_of_scope : Parts → Bool
is_out_of_scope p = has_any_right p.rights || nat_lt 5 (count_of_men p)

abbrev pub won_by : Side → Verdict
won_by White = TableWhite
won_by Black = TableBlack

-- A win or loss by its distance: the winner must get there before the halfmove clock reaches 100. One ply is to spare, since a
-- distance may be off by one.
abbrev pub ruling_at : Parts → Side → Reach → Option Verdict
ruling_at p winner (Err (Damaged key)) = Some Stopped
ruling_at p winner (Err (NotCovered key)) = None
ruling_at p winner (Ok d) = if nat_le (p.halfmove + plies d) 99 then Some (won_by winner) else None

-- by the value, and for wins and losses by the distance too
abbrev pub ruling_by : Parts → Reading → Reach → Option Verdict
ruling_by p (Err (Damaged key)) reach = Some Stopped
ruling_by p (Err (NotCovered key)) reach = None
ruling_by p (Ok Loss) reach = ruling_at p (other p.side) reach
ruling_by p (Ok BlessedLoss) reach = None
ruling_by p (Ok Draw) reach = Some TableDraw
ruling_by p (Ok CursedWin) reach = None
ruling_by p (Ok Win) reach = ruling_at p p.side reach

-- the verdict on a position, if there is one
unfoldable pub ruling : Tables → Parts → Option Verdict
ruling tables p =
    if has_no_move (legal_moves p) then Some (end_of p)
    else if is_out_of_scope p then None
    else ruling_by p (wdl_of tables p) (dtz_of tables p)
