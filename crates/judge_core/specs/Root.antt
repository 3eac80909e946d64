-- The legal moves of a position, each with its value and its distance, the best first (Syzygy tables, as engines read them
-- at the root of a search).
use Rattle.std.specs.Prelude.{◌≡◌, ℕ, ℤ, pos, ◌+◌, ◌-◌, Bool, true, false, List, Option, Some, None, option_map, Result, Ok, Err, filter_map, if◌then◌else◌}
use Rattle.std.specs.declared.cmp.Ordering.{Ordering}
use Rattle.std.specs.Ordering.{nat_cmp, int_cmp, ordering_then}
use Rattle.std.specs.List.Sorted.{IsPermutation, IsSortedByKey, IsStableByKey}
use Rattle.board_core.specs.declared.parts.Parts.{Parts}
use Rattle.board_core.specs.declared.moves.Move.{Move}
use Rattle.board_core.specs.Computed.{is_in_check}
use Rattle.board_core.specs.ComputedMoves.{position_after, legal_moves, is_en_passant, is_capture}
use Rattle.judge_core.specs.declared.root_move.Effect.{Effect}
use Rattle.judge_core.specs.declared.root_move.Effect.TheVariants.{Quiet, PawnMove, Capture, EnPassant}
use Rattle.judge_core.specs.declared.root_move.BoardState.{BoardState}
use Rattle.judge_core.specs.declared.root_move.BoardState.TheVariants.{Open, Check, Checkmate, Stalemate}
use Rattle.judge_core.specs.declared.root_move.RootMove.{RootMove}
use Rattle.judge_core.specs.declared.distance.Distance.{Distance}
use Rattle.judge_core.specs.declared.distance.Distance.TheVariants.{Draw, Win, Loss}
use Rattle.judge_core.specs.declared.wdl.Wdl.TheVariants.{Win as Won}
use Rattle.judge_core.specs.declared.fault.ValueFault.{ValueFault}
use Rattle.table_file.specs.declared.outcome.Outcome.{Outcome}
use Rattle.judge_core.specs.Values.{Reading, points, outcome_of, opposite_reading}
use Rattle.judge_core.specs.Tables.{Tables}
use Rattle.judge_core.specs.Probing.{wdl_of}
use Rattle.judge_core.specs.Distances.{Reach, moves_pawn, zeroing, towards, dtz_of}
use Rattle.judge_core.specs.Answers.{signed_in}
use Rattle.board_core.specs.Ends.{has_no_move}
use Rattle.judge_core.specs.Ruling.{is_out_of_scope}

-- ---- what a move does

-- what a legal move does to the men
unfoldable pub effect_of : Parts → Move → Effect
effect_of p m =
    if is_en_passant p m then EnPassant
    else if is_capture p m then Capture
    else if moves_pawn p m then PawnMove
    else Quiet

-- the halfmove clock is 0 after it
abbrev pub zeroes_clock : Effect → Bool
zeroes_clock Quiet = false
zeroes_clock PawnMove = true
zeroes_clock Capture = true
zeroes_clock EnPassant = true

abbrev pub captures : Effect → Bool
captures Quiet = false
captures PawnMove = false
captures Capture = true
captures EnPassant = true

-- check, and whether there is no legal move
abbrev pub state_by : Bool → Bool → BoardState
state_by true true = Checkmate
state_by true false = Check
state_by false true = Stalemate
state_by false false = Open

-- how a position stands for its side to move (FIDE articles 3.9.1, 5.1.1 and 5.2.1)
unfoldable pub state_of : Parts → BoardState
state_of p = state_by (is_in_check p.men p.side) (has_no_move (legal_moves p))

abbrev pub is_checkmate : BoardState → Bool
is_checkmate Open = false
is_checkmate Check = false
is_checkmate Checkmate = true
is_checkmate Stalemate = false

-- ---- what a move is worth

-- The value of a move for the side that makes it, from how the position after it stands, and its value there. A mating move
-- wins, and needs no table.
abbrev pub value_before : BoardState → Reading → Reading
value_before state reading = if is_checkmate state then Ok Won else opposite_reading reading

-- a capture or a pawn move: one ply, and 100 more where the rule of fifty moves comes before the end; none at a draw
abbrev pub zeroing_of : Option Outcome → Distance
zeroing_of None = Draw
zeroing_of (Some outcome) = towards outcome (zeroing outcome)

abbrev pub zeroed : Reading → Reach
zeroed (Ok v) = Ok (zeroing_of (outcome_of v))
zeroed (Err fault) = Err fault

-- one ply further from the end, for the other side
abbrev pub one_ply_before : Distance → Distance
one_ply_before Draw = Draw
one_ply_before (Win n) = Loss (n + 1)
one_ply_before (Loss n) = Win (n + 1)

abbrev pub reach_one_ply_before : Reach → Reach
reach_one_ply_before (Ok d) = Ok (one_ply_before d)
reach_one_ply_before (Err fault) = Err fault

-- The distance from before a move for the side that makes it: 1 for a mating move, the value's for a move that sets the clock
-- to 0, else one ply more than after it.
abbrev pub reach_before : BoardState → Bool → Reading → Reach → Reach
reach_before state zeroes reading reach =
    if is_checkmate state then Ok (Win 1)
    else if zeroes then zeroed (opposite_reading reading)
    else reach_one_ply_before reach

-- a move with all that is told of it, where this position is the one after it, and these give values and distances
abbrev pub root_move_by : (Parts → Reading) → (Parts → Reach) → Parts → Move → Parts → RootMove
root_move_by value reach p m q = record {
  played = m;
  effect = effect_of p m;
  state = state_of q;
  wdl = value_before (state_of q) (value q);
  dtz = signed_in (reach_before (state_of q) (zeroes_clock (effect_of p m)) (value q) (reach q));
}

abbrev pub root_move_at : (Parts → Reading) → (Parts → Reach) → Parts → Move → Option RootMove
root_move_at value reach p m = option_map (root_move_by value reach p m) (position_after p m)

-- all legal moves, in the order of moves
unfoldable pub root_moves_by : (Parts → Reading) → (Parts → Reach) → Parts → List RootMove
root_moves_by value reach p = filter_map (root_move_at value reach p) (legal_moves p)

-- ... by the tables of a set
abbrev pub root_moves : Tables → Parts → List RootMove
root_moves tables = root_moves_by (wdl_of tables) (dtz_of tables)

-- ---- the order

-- how far a value is below a win; 5 without one
abbrev pub below_win : Reading → ℕ
below_win (Ok v) = 4 - points v
below_win (Err fault) = 5

-- the greatest number where there is no distance
abbrev pub distance_or_most : Result ℤ ValueFault → ℤ
distance_or_most (Ok n) = n
distance_or_most (Err fault) = pos 2147483647

-- By what moves are ordered: the better value first, and then the lower distance. Both a near win and a far loss have a low
-- one, since a loss has it below 0.
abbrev pub move_rank : RootMove → ℕ × ℤ
move_rank m = (below_win m.wdl, distance_or_most m.dtz)

abbrev pub rank_cmp : ℕ × ℤ → ℕ × ℤ → Ordering
rank_cmp a b = ordering_then (nat_cmp a.0 b.0) (int_cmp a.1 b.1)

-- all legal moves, the best first; moves of one rank stay in the order of moves
pub record IsRootBy (value : Parts → Reading) (reach : Parts → Reach) (p : Parts) (moves : List RootMove) : Type 0 where
  pub all : IsPermutation (root_moves_by value reach p) moves
  pub best_first : IsSortedByKey move_rank rank_cmp moves
  pub stable : IsStableByKey move_rank rank_cmp (root_moves_by value reach p) moves

-- ... by the tables of a set
abbrev pub IsRoot : Tables → Parts → List RootMove → Type 0
IsRoot tables = IsRootBy (wdl_of tables) (dtz_of tables)

-- none where the position is out of scope, and else a list of which this holds
abbrev pub IsInScope : {V : Type 0} → (V → Type 0) → Parts → Option V → Type 0
IsInScope holds p None = is_out_of_scope p ≡ true
IsInScope holds p (Some found) = (is_out_of_scope p ≡ false) × holds found

-- none where the position is out of scope, and else that list
abbrev pub IsRootInScope : {V : Type 0} → (V → List RootMove) → Tables → Parts → Option V → Type 0
IsRootInScope items tables p found = IsInScope (λ v. IsRoot tables p (items v)) p found
