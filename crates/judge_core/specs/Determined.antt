-- Values and distances that are the same whatever the missing tables of a set hold.
use Rattle.std.specs.Prelude.{◌≡◌, ◌≢◌, ◌⊎◌, ◌<◌, ℕ, ℤ, IsTrue, true, false, List, None, Some, Result, Ok, Err, filter}
use Rattle.std.specs.List.{Contains}
use Rattle.std.specs.Result.{is_ok}
use Rattle.board_core.specs.declared.parts.Parts.{Parts}
use Rattle.board_core.specs.declared.moves.Move.{Move}
use Rattle.board_core.specs.ComputedMoves.{legal_moves, position_after, count_of_men}
use Rattle.board_core.specs.Position.{IsPosition}
use Rattle.table_file.specs.declared.kind.TableKind.TheVariants.{Dtz}
use Rattle.table_file.specs.declared.outcome.Outcome.{Outcome}
use Rattle.table_file.specs.Tables.{Contents}
use Rattle.judge_core.specs.declared.wdl.Wdl.{Wdl}
use Rattle.judge_core.specs.declared.wdl.Wdl.TheVariants.{Draw}
use Rattle.judge_core.specs.declared.distance.Distance.{Distance}
use Rattle.judge_core.specs.declared.distance.Distance.TheVariants.{Draw as NoDistance}
use Rattle.judge_core.specs.declared.found.CaptureSearch.{CaptureSearch}
use Rattle.judge_core.specs.declared.fault.ValueFault.{ValueFault}
use Rattle.judge_core.specs.declared.fault.ValueFault.TheVariants.{NotCovered, Damaged}
use Rattle.judge_core.specs.declared.fault.ProbeFault.{ProbeFault}
use Rattle.judge_core.specs.declared.fault.ProbeFault.TheVariants.{OutOfMemory}
use Rattle.judge_core.specs.declared.probe_result.ProbeResult.{ProbeResult}
use Rattle.judge_core.specs.declared.root_move.RootMove.{RootMove}
use Rattle.judge_core.specs.Values.{Reading, is_winning, opposite, outcome_of}
use Rattle.judge_core.specs.Tables.{Tables, table_at, table_value}
use Rattle.judge_core.specs.Asked.{fault_in}
use Rattle.judge_core.specs.Probing.{values_after, searched_where, searched_by, wdl_where, wdl_of, worth}
use Rattle.judge_core.specs.Distances.{Reach, is_by_capture, is_pawn_step, is_quiet, is_won, pawns_reach_where, by_own_table, towards, zeroing, dtz_to, dtz_of}
use Rattle.judge_core.specs.Answers.{IsProbe, ListsMoves, signed_in}
use Rattle.judge_core.specs.ProbeResult.{numbered}
use Rattle.judge_core.specs.Root.{IsRootBy}
use Rattle.judge_core.specs.Ruling.{is_out_of_scope}

-- ---- completions

-- what an own table may say in a completion: what it says in the set, or any value where it is missing
abbrev pub Completes : Reading → Reading → Type 0
Completes (Ok v) r = r ≡ Ok v
Completes (Err (NotCovered key)) r = IsTrue (is_ok r)
Completes (Err (Damaged key)) r = r ≡ Err (Damaged key)

-- A completion of the WDL tables: what the own tables of positions say where the missing ones are there and whole. A table that
-- is damaged stays so.
abbrev pub IsCompletion : Tables → (Parts → Reading) → Type 0
IsCompletion tables own = (p : Parts) → Completes (table_value tables p) (own p)

-- every completion gives the position this value
abbrev pub IsDetermined : Tables → Parts → Wdl → Type 0
IsDetermined tables p v = (own : Parts → Reading) → IsCompletion tables own → wdl_where own p ≡ Ok v

-- no value comes from every completion
abbrev pub IsUndetermined : Tables → Parts → Type 0
IsUndetermined tables p = (v : Wdl) → ¬ IsDetermined tables p v

-- the first set with more tables: a completion of its WDL tables, and its DTZ tables with any others
pub record IsCompletedBy (tables more : Tables) : Type 0 where
  pub values : IsCompletion tables (table_value more)
  pub distances : (key : ℕ) (t : Contents) → table_at tables Dtz key ≡ Some t → table_at more Dtz key ≡ Some t

-- every set with more tables gives the position this distance
abbrev pub IsDeterminedDistance : Tables → Parts → Distance → Type 0
IsDeterminedDistance tables p d = (more : Tables) → IsCompletedBy tables more → dtz_of more p ≡ Ok d

-- the value is by a capture in every completion
abbrev pub IsByCapture : Tables → Parts → Type 0
IsByCapture tables p =
    (own : Parts → Reading) (w : CaptureSearch) → IsCompletion tables own → searched_where own (wdl_where own) p ≡ Ok w → is_by_capture w ≡ true

-- A pawn move that takes nothing brings this value about in every completion, and the values after all such moves are there.
pub record IsByPawnMove (tables : Tables) (p : Parts) (v : Wdl) : Type 0 where
  pub step : Move
  pub legal : Contains (legal_moves p) step
  pub pawn : is_pawn_step p step ≡ true
  pub next : Parts
  pub leads : position_after p step ≡ Some next
  pub value : IsDetermined tables next (opposite v)
  pub whole :
      (own : Parts → Reading) → IsCompletion tables own
      → fault_in (values_after (wdl_where own) p (filter (is_pawn_step p) (legal_moves p))) ≡ None

-- in no completion a pawn move that takes nothing reaches this value, and in each the values after all such moves are there
abbrev pub IsOutOfReach : Tables → Parts → Wdl → Type 0
IsOutOfReach tables p v = (own : Parts → Reading) → IsCompletion tables own → pawns_reach_where (wdl_where own) p v ≡ Ok false

-- The value is determined, and a draw, by a capture, or a win by a pawn move: then this is the distance.
pub data IsDistanceByValue (tables : Tables) (p : Parts) (d : Distance) : Type 0 where
  OfDraw : IsDetermined tables p Draw → d ≡ NoDistance → IsDistanceByValue tables p d
  OfCapture : (v : Wdl) (outcome : Outcome) → IsDetermined tables p v → outcome_of v ≡ Some outcome → IsByCapture tables p → d ≡ towards outcome (zeroing outcome) → IsDistanceByValue tables p d
  OfPawnMove : (v : Wdl) (outcome : Outcome) → IsDetermined tables p v → outcome_of v ≡ Some outcome → is_won outcome ≡ true → IsByPawnMove tables p v → d ≡ towards outcome (zeroing outcome) → IsDistanceByValue tables p d

-- ---- distances by the own table

-- The own DTZ table alone is left to tell the distance: what is searched at the position is there in the set itself, no draw and
-- not by a capture. Where it wins, no pawn move that takes nothing does so in any completion.
pub record IsLeftToOwnTable (tables : Tables) (p : Parts) (outcome : Outcome) : Type 0 where
  pub many : 2 < count_of_men p
  pub searched : CaptureSearch
  pub there : searched_by tables (wdl_of tables) p ≡ Ok searched
  pub decided : outcome_of (worth searched) ≡ Some outcome
  pub no_capture : is_by_capture searched ≡ false
  pub no_pawn_move : is_won outcome ≡ true → IsOutOfReach tables p (worth searched)

-- A distance after a quiet move: what the set itself says where one position is visited, or the one by the value.
abbrev pub IsToldAfter : Tables → Parts → Distance → Type 0
IsToldAfter tables q d = (dtz_to tables 1 q ≡ Ok d) ⊎ IsDistanceByValue tables q d

-- The own DTZ table alone is left, and stores this distance. Or it stores the other side alone, each quiet move has a distance
-- that is told, and from these this one follows.
pub record IsDistanceByOwnTable (tables : Tables) (p : Parts) (d : Distance) : Type 0 where
  pub outcome : Outcome
  pub left : IsLeftToOwnTable tables p outcome
  pub reach : Parts → Reach
  pub told :
      (m : Move) (q : Parts) (c : Distance) → is_quiet p m ≡ true → position_after p m ≡ Some q → reach q ≡ Ok c
      → IsToldAfter tables q c
  pub is : by_own_table tables reach p outcome ≡ Ok d

-- ---- readings

-- The value of the set, or else the one that is determined. There is none only where none is determined; then the fault is the
-- set's.
pub record IsDeterminedReading (tables : Tables) (p : Parts) (reading : Reading) : Type 0 where
  pub kept : (v : Wdl) → wdl_of tables p ≡ Ok v → reading ≡ Ok v
  pub determined : (v : Wdl) → reading ≡ Ok v → IsDetermined tables p v
  pub fault_is : (fault : ValueFault) → reading ≡ Err fault → (wdl_of tables p ≡ Err fault) × IsUndetermined tables p

-- The distance of the set, or else one that is determined, exactly where the value is a draw, by a capture, or a win by a pawn
-- move, or where the own table tells it. Else the fault is the set's.
pub record IsDeterminedReach (tables : Tables) (p : Parts) (reach : Reach) : Type 0 where
  pub kept : (d : Distance) → dtz_of tables p ≡ Ok d → reach ≡ Ok d
  pub determined : (d : Distance) → reach ≡ Ok d → IsDeterminedDistance tables p d
  pub fault_is : (fault : ValueFault) → reach ≡ Err fault → dtz_of tables p ≡ Err fault
  pub only :
      (d : Distance) → reach ≡ Ok d
      → (dtz_of tables p ≡ Ok d) ⊎ (IsDistanceByValue tables p d ⊎ IsDistanceByOwnTable tables p d)
  pub draw : IsDetermined tables p Draw → reach ≡ Ok NoDistance
  pub capture :
      (v : Wdl) (outcome : Outcome) → IsDetermined tables p v → outcome_of v ≡ Some outcome → IsByCapture tables p
      → reach ≡ Ok (towards outcome (zeroing outcome))
  pub pawn :
      (v : Wdl) (outcome : Outcome) → IsDetermined tables p v → outcome_of v ≡ Some outcome → is_won outcome ≡ true
      → IsByPawnMove tables p v → reach ≡ Ok (towards outcome (zeroing outcome))
  pub own_table : (d : Distance) → IsDistanceByOwnTable tables p d → reach ≡ Ok d

-- ---- lists of moves

-- The set tells no distance, and the value is determined, a win, and not by a capture in every completion: only then the pawn
-- moves are asked whether one wins.
pub record AsksPawnMoves (tables : Tables) (p : Parts) : Type 0 where
  pub lacking : (d : Distance) → dtz_of tables p ≢ Ok d
  pub value : Wdl
  pub is : IsDetermined tables p value
  pub won : is_winning value ≡ true
  pub no_capture : ¬ IsByCapture tables p

-- moves are listed for the distance of the set, or for the pawn moves of a win that is determined
abbrev pub ListsMovesDetermined : Tables → Parts → Type 0
ListsMovesDetermined tables p = ListsMoves tables p ⊎ AsksPawnMoves tables p

-- ---- answers

-- what a probe returns for the determined value, and never want of memory
pub record IsDeterminedWdl (tables : Tables) (p : Parts) (wdl : Result Wdl ProbeFault) : Type 0 where
  pub reading : Reading
  pub is : IsDeterminedReading tables p reading
  pub told : IsProbe wdl (is_out_of_scope p) reading
  pub answered : wdl ≢ Err OutOfMemory

-- what a probe returns for the determined distance
pub record IsDeterminedDtz (tables : Tables) (p : Parts) (dtz : Result ℤ ProbeFault) : Type 0 where
  pub reach : Reach
  pub is : IsDeterminedReach tables p reach
  pub told : IsProbe dtz (is_out_of_scope p) (signed_in reach)

-- both, as numbers, and neither want of memory
pub record AreDetermined (tables : Tables) (p : Parts) (probed : ProbeResult) : Type 0 where
  pub wdl : Result Wdl ProbeFault
  pub dtz : Result ℤ ProbeFault
  pub wdl_is : IsDeterminedWdl tables p wdl
  pub dtz_is : IsDeterminedDtz tables p dtz
  pub dtz_answered : dtz ≢ Err OutOfMemory
  pub told : probed ≡ record { wdl = numbered wdl; dtz = dtz }

-- the root moves, by determined values and distances of the positions after them
pub record IsDeterminedRoot (tables : Tables) (p : Parts) (moves : List RootMove) : Type 0 where
  pub value : Parts → Reading
  pub reach : Parts → Reach
  pub values : (q : Parts) → IsPosition q → IsDeterminedReading tables q (value q)
  pub reaches : (q : Parts) → IsPosition q → IsDeterminedReach tables q (reach q)
  pub root : IsRootBy value reach p moves
