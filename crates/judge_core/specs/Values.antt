-- What a position is worth to the side to move (Syzygy WDL tables).
use Rattle.std.specs.Prelude.{ℕ, zero, suc, nat_lt, ◌==◌, Bool, Option, Some, None, Result, Ok, Err, if◌then◌else◌}
use Rattle.judge_core.specs.declared.wdl.Wdl.{Wdl}
use Rattle.judge_core.specs.declared.wdl.Wdl.TheVariants.{Loss, BlessedLoss, Draw, CursedWin, Win}
use Rattle.table_file.specs.declared.outcome.Outcome.{Outcome}
use Rattle.table_file.specs.declared.outcome.Outcome.TheVariants.{Win as Won, CursedWin as WonCursed, BlessedLoss as LostBlessed, Loss as Lost}
use Rattle.judge_core.specs.declared.fault.ValueFault.{ValueFault}

-- a value as the tables store it
abbrev pub points : Wdl → ℕ
points Loss = 0
points BlessedLoss = 1
points Draw = 2
points CursedWin = 3
points Win = 4

-- the value that a number of a table stands for
abbrev pub of_points : ℕ → Option Wdl
of_points zero = Some Loss
of_points (suc zero) = Some BlessedLoss
of_points (suc (suc zero)) = Some Draw
of_points (suc (suc (suc zero))) = Some CursedWin
of_points (suc (suc (suc (suc zero)))) = Some Win
of_points (suc (suc (suc (suc (suc n))))) = None

-- the same for the other side
abbrev pub opposite : Wdl → Wdl
opposite Loss = Win
opposite BlessedLoss = CursedWin
opposite Draw = Draw
opposite CursedWin = BlessedLoss
opposite Win = Loss

-- the side to move wins, at least without the rule of fifty moves
abbrev pub is_winning : Wdl → Bool
is_winning v = nat_lt 2 (points v)

abbrev pub is_below : Wdl → Wdl → Bool
is_below a b = nat_lt (points a) (points b)

abbrev pub is_same : Wdl → Wdl → Bool
is_same a b = points a == points b

-- what a value is but a draw
abbrev pub outcome_of : Wdl → Option Outcome
outcome_of Loss = Some Lost
outcome_of BlessedLoss = Some LostBlessed
outcome_of Draw = None
outcome_of CursedWin = Some WonCursed
outcome_of Win = Some Won

-- the greater of two
unfoldable pub greater : Wdl → Wdl → Wdl
greater a b = if nat_lt (points a) (points b) then b else a

-- A value, or which table is missing or damaged.
abbrev pub Reading : Type 0
Reading = Result Wdl ValueFault

abbrev pub opposite_reading : Reading → Reading
opposite_reading (Ok v) = Ok (opposite v)
opposite_reading (Err fault) = Err fault
