-- What a position comes to for the side to move, where the fifty-move rule counts from the clock that it has (the categories of the
-- tablebase API of Lichess).
use Rattle.std.specs.Prelude.{ℕ, ℤ, pos, ◌+◌, ◌==◌, ◌&&◌, ◌||◌, Bool, List, Result, Ok, Err, codes, if◌then◌else◌, int_lt, nat_le, unsigned_abs}
use Rattle.judge_core.specs.declared.category.Category.{Category}
use Rattle.judge_core.specs.declared.category.Category.TheVariants.{Win, MaybeWin, CursedWin, Draw, BlessedLoss, MaybeLoss, Loss, Unknown}
use Rattle.judge_core.specs.declared.fault.ProbeFault.{ProbeFault}
use Rattle.judge_core.specs.declared.probe_result.ProbeResult.{ProbeResult}
use Rattle.judge_core.specs.declared.root_move.BoardState.{BoardState}
use Rattle.judge_core.specs.declared.root_move.BoardState.TheVariants as board

-- So many plies from the last capture or pawn move to the next are within the fifty-move rule: at most 99, or 100 that aren't rounded.
abbrev pub is_within_rule : ℕ → Bool → Bool
is_within_rule plies precise = nat_le plies 99 || (plies == 100 && precise)

-- 100 plies may be 101
abbrev pub winning : ℕ → Bool → Category
winning plies precise = if is_within_rule plies precise then Win else if plies == 100 then MaybeWin else CursedWin

abbrev pub losing : ℕ → Bool → Category
losing plies precise = if is_within_rule plies precise then Loss else if plies == 100 then MaybeLoss else BlessedLoss

-- By the distance and the plies on the clock. That of a cursed win or a blessed loss is above 100 without them.
abbrev pub category_by_distance : ℕ → ℤ → Bool → Category
category_by_distance clock dtz precise =
    if int_lt (pos 0) dtz then winning (unsigned_abs dtz + clock) precise
    else if int_lt dtz (pos 0) then losing (unsigned_abs dtz + clock) precise
    else Draw

-- where the value or the distance is missing it isn't known
abbrev pub category_by : ℕ → Result ℤ ProbeFault → Result ℤ ProbeFault → Bool → Category
category_by clock (Ok wdl) (Ok dtz) precise = category_by_distance clock dtz precise
category_by clock (Ok wdl) (Err fault) precise = Unknown
category_by clock (Err fault) dtz precise = Unknown

-- a side that is mated has lost, and one in stalemate has a draw, whatever the clock says
abbrev pub category_of : BoardState → ℕ → ProbeResult → Bool → Category
category_of board.Open clock probed precise = category_by clock probed.wdl probed.dtz precise
category_of board.Check clock probed precise = category_by clock probed.wdl probed.dtz precise
category_of board.Checkmate clock probed precise = Loss
category_of board.Stalemate clock probed precise = Draw

abbrev pub category_name : Category → List ℕ
category_name Win = codes "win"
category_name MaybeWin = codes "maybe-win"
category_name CursedWin = codes "cursed-win"
category_name Draw = codes "draw"
category_name BlessedLoss = codes "blessed-loss"
category_name MaybeLoss = codes "maybe-loss"
category_name Loss = codes "loss"
category_name Unknown = codes "unknown"
