-- The distance of a position to the next capture or pawn move, which sets the halfmove clock to 0, or to mate, with best
-- play of both (Syzygy DTZ tables). The tables hold no such distance where a capture or a pawn move wins at once, and store
-- one side alone; hence the rules.
use Rattle.std.specs.Prelude.{ℕ, zero, suc, ◌+◌, nat_le, min, max, Bool, true, false, ◌&&◌, ◌||◌, not, List, Option, Some, None, Result, Ok, Err, filter, filter_map, fold, if◌then◌else◌, ℤ, pos, neg_ℤ}
use Rattle.std.specs.List.{list_any}
use Rattle.board_core.specs.declared.parts.Parts.{Parts}
use Rattle.board_core.specs.declared.moves.Move.{Move}
use Rattle.board_core.specs.Attack.{man_at}
use Rattle.board_core.specs.ComputedMoves.{legal_moves, is_capture, is_pawn_of, count_of_men}
use Rattle.place_index.specs.Shape.{Layout}
use Rattle.place_index.specs.Index.{index_of}
use Rattle.place_index.specs.Placed.{Placement}
use Rattle.table_file.specs.declared.kind.TableKind.TheVariants.{Dtz}
use Rattle.table_file.specs.Tables.{Contents, PartAt, shape_of}
use Rattle.table_file.specs.declared.outcome.Outcome.{Outcome}
use Rattle.table_file.specs.declared.outcome.Outcome.TheVariants.{Win as Won, CursedWin as WonCursed, BlessedLoss as LostBlessed, Loss as Lost}
use Rattle.judge_core.specs.declared.distance.Distance.{Distance}
use Rattle.judge_core.specs.declared.distance.Distance.TheVariants.{Draw, Win, Loss}
use Rattle.judge_core.specs.declared.wdl.Wdl.{Wdl}
use Rattle.judge_core.specs.declared.wdl.Wdl.TheVariants.{Win as Best}
use Rattle.judge_core.specs.declared.fault.ValueFault.{ValueFault}
use Rattle.judge_core.specs.declared.fault.ValueFault.TheVariants.{NotCovered, Damaged}
use Rattle.judge_core.specs.declared.found.CaptureSearch.{CaptureSearch}
use Rattle.judge_core.specs.Values.{Reading, is_winning, is_below, is_same, outcome_of, greater}
use Rattle.judge_core.specs.LookUp.{material_of, placed_of}
use Rattle.judge_core.specs.Tables.{Tables, table_at, part_asked}
use Rattle.judge_core.specs.Asked.{asked, fault_in, unless}
use Rattle.table_file.specs.Distances.{stores, distance}
use Rattle.judge_core.specs.Probing.{values_after, searched_by, wdl_of, worth}
use Rattle.board_core.specs.Ends.{is_checkmate}

-- a distance, or which table is missing or damaged
abbrev pub Reach : Type 0
Reach = Result Distance ValueFault

-- the plies of a distance, whoever wins
abbrev pub plies : Distance → ℕ
plies Draw = 0
plies (Win n) = n
plies (Loss n) = n

-- the distance as a number: above 0 where the side to move wins, below where it loses
abbrev pub signed : Distance → ℤ
signed Draw = pos 0
signed (Win n) = pos n
signed (Loss n) = neg_ℤ (pos n)

abbrev pub is_won : Outcome → Bool
is_won Won = true
is_won WonCursed = true
is_won LostBlessed = false
is_won Lost = false

-- the distance of a capture or a pawn move: one ply, and 100 more where the rule of fifty moves comes before the end
abbrev pub zeroing : Outcome → ℕ
zeroing Won = 1
zeroing WonCursed = 101
zeroing LostBlessed = 101
zeroing Lost = 1

-- so many plies from there
abbrev pub towards : Outcome → ℕ → Distance
towards outcome n = if is_won outcome then Win n else Loss n

-- ---- captures

-- The value is that of a capture: en passant alone is legal, a capture wins, or en passant beats all else. Or the best
-- capture is better than a draw and as good as the own table.
abbrev pub is_by_capture : CaptureSearch → Bool
is_by_capture w =
    w.forced
    || is_same (greater w.capture w.passant) Best
    || is_below (greater w.capture w.own) w.passant
    || (not (is_below (greater w.capture w.passant) w.own) && is_winning (greater w.capture w.passant))

-- ---- pawn moves

abbrev pub moves_pawn : Parts → Move → Bool
moves_pawn p m = is_pawn_of p.side (man_at p.men m.from)

-- a pawn moves and takes nothing
unfoldable pub is_pawn_step : Parts → Move → Bool
is_pawn_step p m = moves_pawn p m && not (is_capture p m)

abbrev pub is_value : Wdl → Reading → Bool
is_value v (Ok u) = is_same u v
is_value v (Err fault) = false

-- whether some pawn move that takes nothing reaches this value, where `value` gives those of positions; the values after all
-- such moves are needed, promotions among them
unfoldable pub pawns_reach_where : (Parts → Reading) → Parts → Wdl → Result Bool ValueFault
pawns_reach_where value p v =
    let steps = values_after value p (filter (is_pawn_step p) (legal_moves p)) in
    unless (fault_in steps) (Ok (list_any (is_value v) steps))

-- ... by the tables of a set
abbrev pub pawns_reach : Tables → Parts → Wdl → Result Bool ValueFault
pawns_reach tables p v = pawns_reach_where (wdl_of tables) p v

-- ---- moves that neither take a man nor move a pawn

-- neither a capture nor a pawn move
unfoldable pub is_quiet : Parts → Move → Bool
is_quiet p m = not (moves_pawn p m) && not (is_capture p m)

-- One ply more than the distance after a move, where the side that moved has there what it had before; else none.
abbrev pub one_ply_more : Bool → Distance → Option ℕ
one_ply_more true Draw = None
one_ply_more true (Win n) = None
one_ply_more true (Loss n) = Some (n + 1)
one_ply_more false Draw = None
one_ply_more false (Win n) = Some (n + 1)
one_ply_more false (Loss n) = None

abbrev pub distance_before : Bool → Reach → Result (Option ℕ) ValueFault
distance_before won (Ok d) = Ok (one_ply_more won d)
distance_before won (Err fault) = Err fault

-- the distance before a move, from the position after it; after a mating move none is needed where the side to move wins
unfoldable pub move_counts : Outcome → (Parts → Reach) → Parts → Result (Option ℕ) ValueFault
move_counts outcome reach q = if is_won outcome && is_checkmate q then Ok (Some 1) else distance_before (is_won outcome) (reach q)

abbrev pub known_count : Result (Option ℕ) ValueFault → Option ℕ
known_count (Ok n) = n
known_count (Err fault) = None

abbrev pub lesser : Option ℕ → ℕ → Option ℕ
lesser None n = Some n
lesser (Some m) n = Some (min m n)

-- the least of the numbers, if there is one
abbrev pub least : List (Result (Option ℕ) ValueFault) → Option ℕ
least counts = fold lesser None (filter_map known_count counts)

-- the greatest of the numbers and this one
abbrev pub greatest_count : ℕ → List (Result (Option ℕ) ValueFault) → ℕ
greatest_count n counts = fold max n (filter_map known_count counts)

-- a move that doesn't keep what the side to move has
abbrev pub is_odd : Result (Option ℕ) ValueFault → Bool
is_odd (Ok None) = true
is_odd (Ok (Some n)) = false
is_odd (Err fault) = false

abbrev pub won_in : ℕ → Option ℕ → Reach
won_in key None = Err (Damaged key)
won_in key (Some n) = Ok (Win n)

-- A win is the least number, and needs one. A loss is the greatest one, or the distance of a capture or a pawn move; it needs
-- each move to lose.
abbrev pub by_counts : ℕ → Outcome → List (Result (Option ℕ) ValueFault) → Reach
by_counts key outcome counts =
    if is_won outcome then won_in key (least counts)
    else if list_any is_odd counts then Err (Damaged key)
    else Ok (Loss (greatest_count (zeroing outcome) counts))

-- from the positions after the quiet moves, whose distances `reach` gives; where these are impossible, the table with this
-- key contradicts itself
unfoldable pub by_quiet_moves : ℕ → Outcome → (Parts → Reach) → Parts → Reach
by_quiet_moves key outcome reach p =
    let counts = asked (move_counts outcome reach) p (filter (is_quiet p) (legal_moves p)) in
    unless (fault_in counts) (by_counts key outcome counts)

-- ---- the own table

-- the table's distance at the index of placed men
abbrev pub distance_of : Option Layout → PartAt → Placement → Outcome → Option ℕ
distance_of None part placed outcome = None
distance_of (Some shape) part placed outcome = distance part (index_of shape placed.men) outcome

unfoldable pub distance_in : Contents → Placement → Outcome → Option ℕ
distance_in t placed outcome = distance_of (shape_of (part_asked t placed)) (part_asked t placed) placed outcome

abbrev pub stored_distance : ℕ → Outcome → Option ℕ → Reach
stored_distance key outcome None = Err (Damaged key)
stored_distance key outcome (Some n) = Ok (towards outcome (zeroing outcome + n))

-- what the table stores, where it stores the side to move
abbrev pub by_table : Option Contents → ℕ → (Parts → Reach) → Parts → Outcome → Reach
by_table None key reach p outcome = Err (NotCovered key)
by_table (Some t) key reach p outcome =
    if stores (part_asked t (placed_of key p))
    then stored_distance key outcome (distance_in t (placed_of key p) outcome)
    else by_quiet_moves key outcome reach p

abbrev pub by_material : Tables → Option ℕ → (Parts → Reach) → Parts → Outcome → Reach
by_material tables None reach p outcome = Ok Draw
by_material tables (Some key) reach p outcome = by_table (table_at tables Dtz key) key reach p outcome

unfoldable pub by_own_table : Tables → (Parts → Reach) → Parts → Outcome → Reach
by_own_table tables reach p outcome = by_material tables (material_of p) reach p outcome

-- ---- all rules

abbrev pub unless_reached : Result Bool ValueFault → Outcome → Reach → Reach
unless_reached (Err fault) outcome otherwise = Err fault
unless_reached (Ok true) outcome otherwise = Ok (towards outcome (zeroing outcome))
unless_reached (Ok false) outcome otherwise = otherwise

-- a win by a pawn move, or the distance of the own table
unfoldable pub by_moves : Tables → (Parts → Reach) → Parts → Wdl → Outcome → Reach
by_moves tables reach p v outcome =
    if is_won outcome
    then unless_reached (pawns_reach tables p v) outcome (by_own_table tables reach p outcome)
    else by_own_table tables reach p outcome

abbrev pub by_outcome : Tables → (Parts → Reach) → Parts → CaptureSearch → Option Outcome → Reach
by_outcome tables reach p w None = Ok Draw
by_outcome tables reach p w (Some outcome) =
    if is_by_capture w then Ok (towards outcome (zeroing outcome)) else by_moves tables reach p (worth w) outcome

abbrev pub dtz_from_search : Tables → (Parts → Reach) → Parts → Result CaptureSearch ValueFault → Reach
dtz_from_search tables reach p (Err fault) = Err fault
dtz_from_search tables reach p (Ok w) = by_outcome tables reach p w (outcome_of (worth w))

-- The distance of a position, where `reach` gives those of the positions after its moves. A draw has none. Next come a
-- capture whose value is the position's, and a pawn move that wins. Last comes the own table, or the quiet moves where that
-- stores the other side alone. A fault of a value that is needed is the answer.
abbrev pub dtz_by : Tables → (Parts → Reach) → Parts → Reach
dtz_by tables reach p = if nat_le (count_of_men p) 2 then Ok Draw else dtz_from_search tables reach p (searched_by tables (wdl_of tables) p)

-- the distance of a position, where at most so many positions in a row are visited
unfoldable pub dtz_to : Tables → ℕ → Parts → Reach
dtz_to tables zero p = Ok Draw
dtz_to tables (suc n) p = dtz_by tables (dtz_to tables n) p

-- The distance. A table stores at least one side of its material, and after a quiet move the other side of that table is
-- read. So two positions in a row are enough.
unfoldable pub dtz_of : Tables → Parts → Reach
dtz_of tables p = dtz_to tables 2 p
