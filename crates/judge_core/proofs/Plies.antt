-- A game, ply by ply.
use Rattle.std.proofs.Common.{◌≡◌, ◌∙◌, refl, false, ◌<◌, List, [], ◌∷◌, ◌++◌, Option, Some, Result, Ok, arith}
use Rattle.std.specs.Option.{option_and_then}
use Rattle.std.proofs.lemmas.List.Sums.{fold-append}
use Rattle.board_core.specs.declared.parts.Parts.{Parts}
use Rattle.board_core.specs.declared.moves.Move.{Move}
use Rattle.board_core.specs.ComputedMoves.{position_after}
use Rattle.board_core.specs.declared.piece.Side.{Side}
use Rattle.board_core.specs.Side.{other}
use Rattle.judge_core.specs.declared.wdl.Wdl.TheVariants.{Win, Loss}
use Rattle.judge_core.specs.Tables.{Tables}
use Rattle.board_core.specs.declared.verdict.Verdict.{Verdict}
use Rattle.board_core.specs.ComputedMoves.{legal_moves}
use Rattle.judge_core.specs.Values.{Reading}
use Rattle.board_core.specs.Ends.{has_no_move}
use Rattle.board_core.specs.ComputedMoves.{count_of_men}
use Rattle.judge_core.specs.declared.fault.ValueFault.{ValueFault}
use Rattle.judge_core.specs.declared.found.CaptureSearch.{CaptureSearch}
use Rattle.judge_core.specs.Probing.{searched_by, wdl_of}
use Rattle.judge_core.specs.Distances.{Reach, dtz_from_search, dtz_to, dtz_of}
use Rattle.judge_core.proofs.Reaching.{some_left}
use Rattle.judge_core.specs.Ruling.{is_out_of_scope, ruling_at, ruling_by, ruling}
use Rattle.judge_core.specs.Games.{position_after_all}

pub starts : (start : Parts) → position_after_all start [] ≡ Some start
unfolding position_after_all
starts start = refl

pub goes_on : (start : Parts) (ms : List Move) (m : Move) → position_after_all start (ms ++ m ∷ []) ≡ option_and_then (λ p. position_after p m) (position_after_all start ms)
unfolding position_after_all
goes_on start ms m = fold-append (λ position move. option_and_then (λ p. position_after p move) position) (Some start) ms (m ∷ [])

-- the verdict of a position that has a move and is in scope
pub ruled_by : (tables : Tables) (p : Parts) (reading : Reading) (r : Option Verdict) → has_no_move (legal_moves p) ≡ false → is_out_of_scope p ≡ false → reading ≡ wdl_of tables p → r ≡ ruling_by p reading (dtz_of tables p) → r ≡ ruling tables p
unfolding ruling
ruled_by tables p reading r moves scope e er = er ∙ rw (moves, scope, e) refl

-- a win by its distance, and a loss
pub by_win : (tables : Tables) (p : Parts) (reading : Reading) (winner : Side) (reach : Reach) (r : Option Verdict) → has_no_move (legal_moves p) ≡ false → is_out_of_scope p ≡ false → reading ≡ wdl_of tables p → reading ≡ Ok Win → winner ≡ p.side → reach ≡ dtz_of tables p → r ≡ ruling_at p winner reach → r ≡ ruling tables p
by_win tables p reading winner reach r moves scope value won side e er =
    ruled_by tables p reading r moves scope value (er ∙ rw (side, e, won) refl)

pub by_loss : (tables : Tables) (p : Parts) (reading : Reading) (winner : Side) (reach : Reach) (r : Option Verdict) → has_no_move (legal_moves p) ≡ false → is_out_of_scope p ≡ false → reading ≡ wdl_of tables p → reading ≡ Ok Loss → winner ≡ other p.side → reach ≡ dtz_of tables p → r ≡ ruling_at p winner reach → r ≡ ruling tables p
by_loss tables p reading winner reach r moves scope value lost side e er =
    ruled_by tables p reading r moves scope value (er ∙ rw (side, e, lost) refl)

-- the distance of a position of more than bare kings, by what its captures and its own table say
pub reached : (tables : Tables) (p : Parts) (w : Result CaptureSearch ValueFault) → 2 < count_of_men p → w ≡ searched_by tables (wdl_of tables) p → dtz_from_search tables (dtz_to tables 1) p w ≡ dtz_of tables p
unfolding dtz_of
reached tables p w many e = some_left tables 2 p w (λ z. absurd (omega (arith, z))) many e
