-- The five rules of a distance, of which the first that applies counts (Syzygy DTZ tables). `reach` gives the distances of
-- the positions after the moves.
use Rattle.std.specs.Prelude.{◌≡◌, ◌≤◌, ◌<◌, ◌+◌, ◌↔◌, ℕ, Bool, true, false, IsTrue, IsFalse, List, Option, Some, None, Result, Ok, Err, filter}
use Rattle.std.specs.List.{list_any}
use Rattle.board_core.specs.declared.parts.Parts.{Parts}
use Rattle.board_core.specs.Position.{IsPosition}
use Rattle.board_core.specs.ComputedMoves.{legal_moves, count_of_men}
use Rattle.table_file.specs.declared.kind.TableKind.TheVariants.{Dtz}
use Rattle.table_file.specs.declared.outcome.Outcome.{Outcome}
use Rattle.table_file.specs.Tables.{Contents}
use Rattle.table_file.specs.Distances.{stores}
use Rattle.judge_core.specs.declared.distance.Distance.TheVariants.{Draw, Win, Loss}
use Rattle.judge_core.specs.declared.fault.ValueFault.{ValueFault}
use Rattle.judge_core.specs.declared.fault.ValueFault.TheVariants.{NotCovered, Damaged}
use Rattle.judge_core.specs.declared.found.CaptureSearch.{CaptureSearch}
use Rattle.judge_core.specs.Values.{outcome_of}
use Rattle.judge_core.specs.LookUp.{material_of, placed_of}
use Rattle.judge_core.specs.Tables.{Tables, AreFiled, table_at, part_asked}
use Rattle.judge_core.specs.Asked.{asked, fault_in}
use Rattle.judge_core.specs.Probing.{searched_by, wdl_of, worth}
use Rattle.judge_core.specs.Ruling.{is_out_of_scope}
use Rattle.judge_core.specs.Distances.{Reach, is_won, zeroing, towards, is_by_capture, pawns_reach, is_quiet, move_counts, least, greatest_count, is_odd, distance_in, dtz_of}

-- more than two men, and what captures and the own table say of them
pub record IsSearched (tables : Tables) (p : Parts) (w : Result CaptureSearch ValueFault) : Type 0 where
  pub men : 2 < count_of_men p
  pub searched : searched_by tables (wdl_of tables) p ≡ w

-- a win or a loss, of this kind
pub record IsDecided (tables : Tables) (p : Parts) (w : CaptureSearch) (outcome : Outcome) : Type 0 where
  pub searched : IsSearched tables p (Ok w)
  pub decided : outcome_of (worth w) ≡ Some outcome

-- neither a capture nor, for a win, a pawn move gives the distance
pub record IsLeftToTables (tables : Tables) (p : Parts) (w : CaptureSearch) (outcome : Outcome) : Type 0 where
  pub decided : IsDecided tables p w outcome
  pub no_capture : IsFalse (is_by_capture w)
  pub no_pawn : IsTrue (is_won outcome) → pawns_reach tables p (worth w) ≡ Ok false

-- the table of distances of the position's men stores the side to move, or doesn't
pub record IsOwnTable (tables : Tables) (p : Parts) (key : ℕ) (t : Contents) (side_is_stored : Bool) : Type 0 where
  pub material : material_of p ≡ Some key
  pub table : table_at tables Dtz key ≡ Some t
  pub stored : stores (part_asked t (placed_of key p)) ≡ side_is_stored

-- one ply more than the distance after each move that neither takes a man nor moves a pawn, where that move keeps the win or loss
abbrev pub counts_after : (Parts → Reach) → Parts → Outcome → List (Result (Option ℕ) ValueFault)
counts_after reach p outcome = asked (move_counts outcome reach) p (filter (is_quiet p) (legal_moves p))

-- no capture, pawn move or number of the own table gives the distance, and the table has the other side
pub record IsLeftToMoves (tables : Tables) (p : Parts) (outcome : Outcome) (key : ℕ) : Type 0 where
  pub w : CaptureSearch
  pub left : IsLeftToTables tables p w outcome
  pub t : Contents
  pub own : IsOwnTable tables p key t false

pub data IsDistance (tables : Tables) (reach : Parts → Reach) (p : Parts) : Reach → Type 0 where
  -- 1. The fault of the value; no distance for a draw, as of bare kings.
  unknown : {fault : ValueFault} → IsSearched tables p (Err fault) → IsDistance tables reach p (Err fault)
  bare : count_of_men p ≤ 2 → IsDistance tables reach p (Ok Draw)
  drawn : {w : CaptureSearch} → IsSearched tables p (Ok w) → outcome_of (worth w) ≡ None → IsDistance tables reach p (Ok Draw)
  -- 2. The distance of a capture, where the position is worth what a capture is.
  capture : {w : CaptureSearch} {outcome : Outcome} → IsDecided tables p w outcome → IsTrue (is_by_capture w) → IsDistance tables reach p (Ok (towards outcome (zeroing outcome)))
  -- 3. That of a pawn move, where one that takes nothing keeps a win; the values after all of them are needed.
  pawn_unknown : {w : CaptureSearch} {outcome : Outcome} {fault : ValueFault} → IsDecided tables p w outcome → IsFalse (is_by_capture w) → IsTrue (is_won outcome) → pawns_reach tables p (worth w) ≡ Err fault → IsDistance tables reach p (Err fault)
  pawn : {w : CaptureSearch} {outcome : Outcome} → IsDecided tables p w outcome → IsFalse (is_by_capture w) → IsTrue (is_won outcome) → pawns_reach tables p (worth w) ≡ Ok true → IsDistance tables reach p (Ok (towards outcome (zeroing outcome)))
  -- 4. The number of the own table, where it stores the side to move, counted from a capture or a pawn move.
  no_table : {w : CaptureSearch} {outcome : Outcome} {key : ℕ} → IsLeftToTables tables p w outcome → material_of p ≡ Some key → table_at tables Dtz key ≡ None → IsDistance tables reach p (Err (NotCovered key))
  no_number : {w : CaptureSearch} {outcome : Outcome} {key : ℕ} {t : Contents} → IsLeftToTables tables p w outcome → IsOwnTable tables p key t true → distance_in t (placed_of key p) outcome ≡ None → IsDistance tables reach p (Err (Damaged key))
  stored : {w : CaptureSearch} {outcome : Outcome} {key n : ℕ} {t : Contents} → IsLeftToTables tables p w outcome → IsOwnTable tables p key t true → distance_in t (placed_of key p) outcome ≡ Some n → IsDistance tables reach p (Ok (towards outcome (zeroing outcome + n)))
  -- 5. The moves that neither take a man nor move a pawn. For a win it is the least of their numbers, and there must be
  --    one. For a loss it is the greatest, at least that of a capture, and each move must lose.
  move_unknown : {outcome : Outcome} {key : ℕ} {fault : ValueFault} → IsLeftToMoves tables p outcome key → fault_in (counts_after reach p outcome) ≡ Some fault → IsDistance tables reach p (Err fault)
  no_winner : {outcome : Outcome} {key : ℕ} → IsLeftToMoves tables p outcome key → fault_in (counts_after reach p outcome) ≡ None → IsTrue (is_won outcome) → least (counts_after reach p outcome) ≡ None → IsDistance tables reach p (Err (Damaged key))
  won : {outcome : Outcome} {key n : ℕ} → IsLeftToMoves tables p outcome key → fault_in (counts_after reach p outcome) ≡ None → IsTrue (is_won outcome) → least (counts_after reach p outcome) ≡ Some n → IsDistance tables reach p (Ok (Win n))
  no_loser : {outcome : Outcome} {key : ℕ} → IsLeftToMoves tables p outcome key → fault_in (counts_after reach p outcome) ≡ None → IsFalse (is_won outcome) → IsTrue (list_any is_odd (counts_after reach p outcome)) → IsDistance tables reach p (Err (Damaged key))
  lost : {outcome : Outcome} {key : ℕ} → IsLeftToMoves tables p outcome key → fault_in (counts_after reach p outcome) ≡ None → IsFalse (is_won outcome) → IsFalse (list_any is_odd (counts_after reach p outcome)) → IsDistance tables reach p (Ok (Loss (greatest_count (zeroing outcome) (counts_after reach p outcome))))

-- The distance of a position in scope is the one that the five rules give, where `dtz_of` gives the others.
abbrev pub DistanceByFiveRules : Type 0
DistanceByFiveRules =
    (tables : Tables) (p : Parts) (r : Reach) → AreFiled tables → IsPosition p → IsFalse (is_out_of_scope p) → IsDistance tables (dtz_of tables) p r ↔ (dtz_of tables p ≡ r)
