-- Which distances are precise (Syzygy DTZ tables). A table may count moves of one side in place of plies. Such a distance is
-- rounded: the true one may be one ply more.
use Rattle.std.specs.Prelude.{ℕ, ◌==◌, Bool, true, false, ◌||◌, ◌&&◌, not, nat_le, List, Option, Some, None, Result, Ok, Err, filter, filter_map, if◌then◌else◌}
use Rattle.std.specs.List.{list_any, list_all}
use Rattle.board_core.specs.declared.parts.Parts.{Parts}
use Rattle.board_core.specs.ComputedMoves.{legal_moves, position_after, count_of_men}
use Rattle.board_core.specs.Ends.{is_checkmate}
use Rattle.table_file.specs.declared.kind.TableKind.TheVariants.{Dtz}
use Rattle.table_file.specs.declared.outcome.Outcome.{Outcome}
use Rattle.table_file.specs.Tables.{Contents, PartAt}
use Rattle.table_file.specs.Distances.{counts_moves, file_flags, stores}
use Rattle.judge_core.specs.declared.precision.DistanceSource.{DistanceSource}
use Rattle.judge_core.specs.declared.precision.DistanceSource.TheVariants.{Value, Plies, Moves, NextMoves, Nowhere}
use Rattle.judge_core.specs.declared.wdl.Wdl.{Wdl}
use Rattle.judge_core.specs.declared.fault.ValueFault.{ValueFault}
use Rattle.judge_core.specs.declared.found.CaptureSearch.{CaptureSearch}
use Rattle.judge_core.specs.Values.{outcome_of}
use Rattle.judge_core.specs.LookUp.{material_of, placed_of}
use Rattle.judge_core.specs.Tables.{Tables, table_at, part_asked}
use Rattle.judge_core.specs.Probing.{searched_by, wdl_of, worth}
use Rattle.judge_core.specs.Ruling.{is_out_of_scope}
use Rattle.judge_core.specs.Distances.{Reach, plies, is_won, is_by_capture, pawns_reach, is_quiet, move_counts, dtz_to, dtz_of}

-- ---- where a distance comes from, by the rules of `dtz_of`

abbrev pub source_in_part : PartAt → Outcome → DistanceSource
source_in_part part outcome =
    if stores part
    then if counts_moves (file_flags part) outcome then Moves else Plies
    else NextMoves outcome

abbrev pub source_in : Option Contents → ℕ → Parts → Outcome → DistanceSource
source_in None key p outcome = Nowhere
source_in (Some t) key p outcome = source_in_part (part_asked t (placed_of key p)) outcome

abbrev pub source_of_material : Tables → Option ℕ → Parts → Outcome → DistanceSource
source_of_material tables None p outcome = Value
source_of_material tables (Some key) p outcome = source_in (table_at tables Dtz key) key p outcome

-- the own table, or the quiet moves where that stores the other side alone
unfoldable pub source_in_table : Tables → Parts → Outcome → DistanceSource
source_in_table tables p outcome = source_of_material tables (material_of p) p outcome

abbrev pub unless_pawn : Result Bool ValueFault → DistanceSource → DistanceSource
unless_pawn (Err fault) otherwise = Nowhere
unless_pawn (Ok true) otherwise = Value
unless_pawn (Ok false) otherwise = otherwise

-- a pawn move that wins, or the own table
unfoldable pub source_by_moves : Tables → Parts → Wdl → Outcome → DistanceSource
source_by_moves tables p v outcome =
    if is_won outcome
    then unless_pawn (pawns_reach tables p v) (source_in_table tables p outcome)
    else source_in_table tables p outcome

abbrev pub source_by_outcome : Tables → Parts → CaptureSearch → Option Outcome → DistanceSource
source_by_outcome tables p w None = Value
source_by_outcome tables p w (Some outcome) = if is_by_capture w then Value else source_by_moves tables p (worth w) outcome

abbrev pub source_from_search : Tables → Parts → Result CaptureSearch ValueFault → DistanceSource
source_from_search tables p (Err fault) = Nowhere
source_from_search tables p (Ok w) = source_by_outcome tables p w (outcome_of (worth w))

-- A draw, a capture and a pawn move need no table of distances. Then the own table is asked.
unfoldable pub source_of : Tables → Parts → DistanceSource
source_of tables p = if nat_le (count_of_men p) 2 then Value else source_from_search tables p (searched_by tables (wdl_of tables) p)

-- ---- which are precise

-- the distance comes from the value, or from a table that counts plies
abbrev pub is_unrounded : DistanceSource → Bool
is_unrounded Value = true
is_unrounded Plies = true
is_unrounded Moves = false
is_unrounded (NextMoves outcome) = false
is_unrounded Nowhere = false

-- so is that of a position after a quiet move; a mate needs no table
unfoldable pub is_precise_next : Tables → Parts → Bool
is_precise_next tables q = is_checkmate q || is_unrounded (source_of tables q)

abbrev pub is_count : ℕ → Result (Option ℕ) ValueFault → Bool
is_count n (Ok None) = false
is_count n (Ok (Some m)) = m == n
is_count n (Err fault) = false

-- the positions after the quiet moves that give a distance of so many plies
abbrev pub next_giving : Tables → Parts → Outcome → ℕ → List Parts
next_giving tables p outcome n =
    filter (λ q. is_count n (move_counts outcome (dtz_to tables 1) q)) (filter_map (position_after p) (filter (is_quiet p) (legal_moves p)))

-- By the quiet moves a win is precise where one of the nearest is, and a loss where all of the farthest are.
abbrev pub is_precise_by_moves : Tables → Parts → Outcome → Reach → Bool
is_precise_by_moves tables p outcome (Err fault) = false
is_precise_by_moves tables p outcome (Ok d) =
    if is_won outcome
    then list_any (is_precise_next tables) (next_giving tables p outcome (plies d))
    else list_all (is_precise_next tables) (next_giving tables p outcome (plies d))

abbrev pub is_precise_from : Tables → Parts → DistanceSource → Bool
is_precise_from tables p Value = true
is_precise_from tables p Plies = true
is_precise_from tables p Moves = false
is_precise_from tables p (NextMoves outcome) = is_precise_by_moves tables p outcome (dtz_of tables p)
is_precise_from tables p Nowhere = false

-- the distance isn't rounded, where there is one; that of a mate never is
unfoldable pub is_precise : Tables → Parts → Bool
is_precise tables p = is_checkmate p || (not (is_out_of_scope p) && is_precise_from tables p (source_of tables p))
