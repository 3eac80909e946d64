-- What the quiet moves come to that give a distance; cited by private functions alone.
use Rattle.std.specs.Prelude.{ℕ, Bool, true, false, ◌||◌, ◌&&◌, Option, Some, None, Result, Ok, Err, filter, fold, if◌then◌else◌}
use Rattle.board_core.specs.declared.parts.Parts.{Parts}
use Rattle.board_core.specs.ComputedMoves.{legal_moves}
use Rattle.table_file.specs.declared.outcome.Outcome.{Outcome}
use Rattle.judge_core.specs.declared.fault.ValueFault.{ValueFault}
use Rattle.judge_core.specs.declared.precision.MovePrecision.{MovePrecision}
use Rattle.judge_core.specs.Asked.{asked}
use Rattle.judge_core.specs.Distances.{is_quiet, is_won, move_counts, dtz_to}
use Rattle.judge_core.specs.Precision.{is_count, is_precise_from, is_precise_next, source_of}
use Rattle.judge_core.specs.Tables.{Tables}

-- whether the distance after a move is precise, where the move gives so many plies
abbrev pub precise_in : Tables → Outcome → ℕ → Parts → Option Bool
precise_in tables outcome n q = if is_count n (move_counts outcome (dtz_to tables 1) q) then Some (is_precise_next tables q) else None

-- before the first move
abbrev pub no_moves : MovePrecision
no_moves = record { some = false; all = true }

-- one move more
abbrev pub with_move : MovePrecision → Option Bool → MovePrecision
with_move s None = s
with_move s (Some precise) = record { some = s.some || precise; all = s.all && precise }

abbrev pub noted : MovePrecision → Result (Option Bool) ValueFault → MovePrecision
noted s (Ok precise) = with_move s precise
noted s (Err fault) = s

-- all quiet moves
abbrev pub precision_of_moves : Tables → Parts → Outcome → ℕ → MovePrecision
precision_of_moves tables p outcome n = fold noted no_moves (asked (λ q. Ok (precise_in tables outcome n q)) p (filter (is_quiet p) (legal_moves p)))

abbrev pub by_outcome : Outcome → MovePrecision → Bool
by_outcome outcome s = if is_won outcome then s.some else s.all

-- a position in scope that is no mate
abbrev pub is_precise_open : Tables → Parts → Bool
is_precise_open tables p = is_precise_from tables p (source_of tables p)
