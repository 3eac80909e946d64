-- The two completions between which all others lie, and what follows from both.
use Rattle.std.specs.Prelude.{◌≡◌, ◌⊎◌, ℕ, ◌%◌, ◌==◌, nat_le, Bool, true, false, not, ◌&&◌, ◌||◌, Option, Some, None, Result, Ok, Err, if◌then◌else◌}
use Rattle.std.specs.Result.{result_ok}
use Rattle.board_core.specs.declared.parts.Parts.{Parts}
use Rattle.board_core.specs.ComputedMoves.{count_of_men}
use Rattle.table_file.specs.declared.outcome.Outcome.{Outcome}
use Rattle.judge_core.specs.declared.ask.Ask.{Ask}
use Rattle.judge_core.specs.declared.ask.Ask.TheVariants.{Strict, Determined}
use Rattle.judge_core.specs.declared.determined.ReachedIn.{ReachedIn}
use Rattle.judge_core.specs.declared.determined.ReachedIn.TheVariants.{TheSet, EachCompletion, SomeCompletion}
use Rattle.judge_core.specs.declared.dtz.Beyond.{Beyond}
use Rattle.judge_core.specs.declared.dtz.Beyond.TheVariants.{Unvisited, Visited, Told}
use Rattle.judge_core.specs.declared.wdl.Wdl.{Wdl}
use Rattle.judge_core.specs.declared.wdl.Wdl.TheVariants.{Loss, Win}
use Rattle.judge_core.specs.declared.distance.Distance.{Distance}
use Rattle.judge_core.specs.declared.distance.Distance.TheVariants.{Draw}
use Rattle.judge_core.specs.declared.found.CaptureSearch.{CaptureSearch}
use Rattle.judge_core.specs.declared.fault.ValueFault.{ValueFault}
use Rattle.judge_core.specs.declared.fault.ValueFault.TheVariants.{NotCovered, Damaged}
use Rattle.judge_core.specs.Values.{Reading, is_below, is_same, opposite, outcome_of}
use Rattle.judge_core.specs.Tables.{Tables, table_value}
use Rattle.judge_core.specs.Probing.{searched_where, searched_by, wdl_where, wdl_of, worth}
use Rattle.judge_core.specs.Answers.{ListsMoves}
use Rattle.judge_core.specs.Distances.{Reach, is_by_capture, is_won, towards, zeroing, pawns_reach_where, by_own_table, dtz_to, dtz_of}

-- ---- values

-- A missing table wins for the side to move where the number of men is odd, and loses where it is even, or the other way round.
-- A capture takes a man, so that one side wins by all missing tables that are met.
abbrev pub is_won_here : Bool → ℕ → Bool
is_won_here true men = men % 2 == 1
is_won_here false men = not (men % 2 == 1)

abbrev pub fill : Bool → ℕ → Wdl
fill odd_wins men = if is_won_here odd_wins men then Win else Loss

abbrev pub in_stead : Reading → Wdl → Reading
in_stead (Ok v) other = Ok v
in_stead (Err (NotCovered key)) other = Ok other
in_stead (Err (Damaged key)) other = Err (Damaged key)

unfoldable pub extreme : Tables → Bool → Parts → Reading
extreme tables odd_wins p = in_stead (table_value tables p) (fill odd_wins (count_of_men p))

-- what the position is worth there
abbrev pub extreme_value : Tables → Bool → Parts → Reading
extreme_value tables odd_wins = wdl_where (extreme tables odd_wins)

abbrev pub extreme_searched : Tables → Bool → Parts → Result CaptureSearch ValueFault
extreme_searched tables odd_wins p = searched_where (extreme tables odd_wins) (extreme_value tables odd_wins) p

-- the value that two readings have
abbrev pub agreed : Reading → Reading → Option Wdl
agreed (Ok u) (Ok v) = if is_same u v then Some u else None
agreed (Ok u) (Err fault) = None
agreed (Err fault) r = None

-- the value that both have
abbrev pub value_of_both : Tables → Parts → Option Wdl
value_of_both tables p = agreed (extreme_value tables true p) (extreme_value tables false p)

abbrev pub or_agreed : Reading → Option Wdl → Reading
or_agreed (Ok v) other = Ok v
or_agreed (Err fault) None = Err fault
or_agreed (Err fault) (Some v) = Ok v

unfoldable pub determined_value : Tables → Parts → Reading
determined_value tables p = or_agreed (wdl_of tables p) (value_of_both tables p)

-- ---- distances

-- this value only where both have it, and a fault where one has
abbrev pub in_both : Wdl → Reading → Reading → Reading
in_both v (Ok a) (Ok b) = if is_same a v then Ok b else Ok a
in_both v (Ok a) (Err fault) = Err fault
in_both v (Err fault) r = Err fault

unfoldable pub value_in_both : Tables → Wdl → Parts → Reading
value_in_both tables v p = in_both v (extreme_value tables true p) (extreme_value tables false p)

-- whether some pawn move reaches the value in both
abbrev pub pawns_reach_in_both : Tables → Parts → Wdl → Result Bool ValueFault
pawns_reach_in_both tables p v = pawns_reach_where (value_in_both tables (opposite v)) p v

abbrev pub is_reached : Result Bool ValueFault → Bool
is_reached (Ok reached) = reached
is_reached (Err fault) = false

-- by a capture in both, or a win by a pawn move
abbrev pub is_zeroing : Tables → Parts → CaptureSearch → CaptureSearch → Outcome → Bool
is_zeroing tables p a b outcome = (is_by_capture a && is_by_capture b) || (is_won outcome && is_reached (pawns_reach_in_both tables p (worth a)))

abbrev pub zeroing_distance : Tables → Parts → CaptureSearch → CaptureSearch → Option Outcome → Option Distance
zeroing_distance tables p a b None = Some Draw
zeroing_distance tables p a b (Some outcome) = if is_zeroing tables p a b outcome then Some (towards outcome (zeroing outcome)) else None

abbrev pub agreed_distance : Tables → Parts → Result CaptureSearch ValueFault → Result CaptureSearch ValueFault → Option Distance
agreed_distance tables p (Ok a) (Ok b) = if is_same (worth a) (worth b) then zeroing_distance tables p a b (outcome_of (worth a)) else None
agreed_distance tables p (Ok a) (Err fault) = None
agreed_distance tables p (Err fault) r = None

-- the distance that both have
abbrev pub distance_in_both : Tables → Parts → Option Distance
distance_in_both tables p = agreed_distance tables p (extreme_searched tables true p) (extreme_searched tables false p)

abbrev pub or_agreed_distance : Reach → Option Distance → Reach
or_agreed_distance (Ok d) other = Ok d
or_agreed_distance (Err fault) None = Err fault
or_agreed_distance (Err fault) (Some d) = Ok d

abbrev pub told_reach : Tables → Parts → Reach
told_reach tables p = or_agreed_distance (dtz_of tables p) (distance_in_both tables p)

-- after a quiet move: what the set says where one position is visited, or else the distance that both have
unfoldable pub reach_after : Tables → Parts → Reach
reach_after tables q = or_agreed_distance (dtz_to tables 1 q) (distance_in_both tables q)

-- ---- by the own table

-- a value that is less than both, or more than both
abbrev pub lies_outside : Wdl → Wdl → Wdl → Bool
lies_outside v a b = (is_below v a && is_below v b) || (is_below a v && is_below b v)

-- this value unless it lies outside both, and a fault where one has
abbrev pub in_some : Wdl → Reading → Reading → Reading
in_some v (Ok a) (Ok b) = if lies_outside v a b then Ok a else Ok v
in_some v (Ok a) (Err fault) = Err fault
in_some v (Err fault) r = Err fault

unfoldable pub value_in_some : Tables → Wdl → Parts → Reading
value_in_some tables v p = in_some v (extreme_value tables true p) (extreme_value tables false p)

-- whether some pawn move reaches the value in some completion
abbrev pub pawns_reach_in_some : Tables → Parts → Wdl → Result Bool ValueFault
pawns_reach_in_some tables p v = pawns_reach_where (value_in_some tables (opposite v)) p v

abbrev pub is_missed : Result Bool ValueFault → Bool
is_missed (Ok reached) = not reached
is_missed (Err fault) = false

-- what a won or lost position is, where neither a capture nor a pawn move tells its distance
abbrev pub outcome_left : Tables → Parts → CaptureSearch → Option Outcome → Option Outcome
outcome_left tables p w None = None
outcome_left tables p w (Some outcome) =
    if is_by_capture w || (is_won outcome && not (is_missed (pawns_reach_in_some tables p (worth w)))) then None else Some outcome

abbrev pub outcome_left_in : Tables → Parts → Result CaptureSearch ValueFault → Option Outcome
outcome_left_in tables p (Ok w) = outcome_left tables p w (outcome_of (worth w))
outcome_left_in tables p (Err fault) = None

abbrev pub by_table_told : Tables → Parts → Option Outcome → Option Distance
by_table_told tables p None = None
by_table_told tables p (Some outcome) = result_ok (by_own_table tables (reach_after tables) p outcome)

-- the distance of the own table, where that alone is left
unfoldable pub distance_by_own_table : Tables → Parts → Option Distance
distance_by_own_table tables p =
    if nat_le (count_of_men p) 2 then None else by_table_told tables p (outcome_left_in tables p (searched_by tables (wdl_of tables) p))

-- the distance that is told, or else the one by the own table
unfoldable pub determined_reach : Tables → Parts → Reach
determined_reach tables p = or_agreed_distance (told_reach tables p) (distance_by_own_table tables p)

-- how positions after quiet moves are asked
abbrev pub reach_beyond : Beyond → Tables → Parts → Reach
reach_beyond Unvisited tables = dtz_to tables 0
reach_beyond Visited tables = dtz_to tables 1
reach_beyond Told tables = reach_after tables

-- the plies that distances after quiet moves may have on those of a table
abbrev pub visits : Beyond → ℕ
visits Unvisited = 0
visits Visited = 1
visits Told = 2

-- ---- lists of moves

-- a win, and not by a capture in both: only then the pawn moves are asked
pub record AskPawns (a b : CaptureSearch) : Type 0 where
  pub outcome : Outcome
  pub is : outcome_of (worth a) ≡ Some outcome
  pub won : is_won outcome ≡ true
  pub no_capture : (is_by_capture a && is_by_capture b) ≡ false

-- what is searched in both is there, and worth the same
abbrev pub AgreedAskPawns : Result CaptureSearch ValueFault → Result CaptureSearch ValueFault → Type 0
AgreedAskPawns (Ok a) (Ok b) = (worth a ≡ worth b) × AskPawns a b
AgreedAskPawns (Ok a) (Err fault) = ⊥
AgreedAskPawns (Err fault) r = ⊥

abbrev pub is_lacking : Reach → Bool
is_lacking (Ok d) = false
is_lacking (Err fault) = true

abbrev pub BothAskPawns : Tables → Parts → Type 0
BothAskPawns tables p = AgreedAskPawns (extreme_searched tables true p) (extreme_searched tables false p)

-- the set tells no distance, and the pawn moves are asked
pub record LackAndAsk (tables : Tables) (p : Parts) (strict : Reach) : Type 0 where
  pub lacking : is_lacking strict ≡ true
  pub ask : BothAskPawns tables p

-- ... of a position
abbrev pub ListsMovesInside : Tables → Parts → Type 0
ListsMovesInside tables p = ListsMoves tables p ⊎ LackAndAsk tables p (dtz_of tables p)

-- ---- what is asked for

abbrev pub value_as : Ask → Tables → Parts → Reading
value_as Strict tables = wdl_of tables
value_as Determined tables = determined_value tables

abbrev pub reach_as : Ask → Tables → Parts → Reach
reach_as Strict tables = dtz_of tables
reach_as Determined tables = determined_reach tables

-- the values in which pawn moves are to reach this one
abbrev pub step_value_in : ReachedIn → Tables → Wdl → Parts → Reading
step_value_in TheSet tables v = wdl_of tables
step_value_in EachCompletion tables v = value_in_both tables (opposite v)
step_value_in SomeCompletion tables v = value_in_some tables (opposite v)
