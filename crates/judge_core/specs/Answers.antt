-- What the calls of a set answer.
use Rattle.std.specs.Prelude.{◌≡◌, ◌≢◌, ◌⊎◌, ◌<◌, ℕ, ℤ, Bool, true, false, List, Result, Ok, Err, codes, if◌then◌else◌}
use Rattle.board_core.specs.declared.parts.Parts.{Parts}
use Rattle.board_core.specs.ComputedMoves.{legal_moves, count_of_men}
use Rattle.judge_core.specs.declared.fault.ValueFault.{ValueFault}
use Rattle.judge_core.specs.declared.found.CaptureSearch.{CaptureSearch}
use Rattle.judge_core.specs.declared.fault.ValueFault.TheVariants as value
use Rattle.judge_core.specs.declared.fault.ProbeFault.{ProbeFault}
use Rattle.judge_core.specs.declared.fault.ProbeFault.TheVariants.{OutOfScope, NotCovered, Damaged, OutOfMemory}
use Rattle.judge_core.specs.declared.wdl.Wdl.{Wdl}
use Rattle.judge_core.specs.declared.wdl.Wdl.TheVariants.{Loss, Draw, Win}
use Rattle.judge_core.specs.Values.{Reading}
use Rattle.judge_core.specs.Tables.{Tables}
use Rattle.judge_core.specs.Probing.{wdl_of, searched_by, worth}
use Rattle.judge_core.specs.Distances.{Reach, is_by_capture, signed}
use Rattle.board_core.specs.Ends.{has_no_move}
use Rattle.judge_core.specs.Ruling.{is_out_of_scope}

-- The probe returns what the tables say, unless the position is out of their scope or memory was refused.
abbrev pub IsProbe : {X : Type 0} → Result X ProbeFault → Bool → Result X ValueFault → Type 0
IsProbe (Ok x) outside reading = (outside ≡ false) × (reading ≡ Ok x)
IsProbe (Err OutOfScope) outside reading = outside ≡ true
IsProbe (Err (NotCovered key)) outside reading = (outside ≡ false) × (reading ≡ Err (value.NotCovered key))
IsProbe (Err (Damaged key)) outside reading = (outside ≡ false) × (reading ≡ Err (value.Damaged key))
IsProbe (Err OutOfMemory) outside reading = outside ≡ false

-- the fault of a probe that meets this one
abbrev pub probe_fault : ValueFault → ProbeFault
probe_fault (value.NotCovered key) = NotCovered key
probe_fault (value.Damaged key) = Damaged key

-- what a probe returns for a reading
abbrev pub as_probe : {X Y : Type 0} → (X → Y) → Result X ValueFault → Result Y ProbeFault
as_probe say (Ok x) = Ok (say x)
as_probe say (Err fault) = Err (probe_fault fault)

-- what a WDL probe returns
abbrev pub wdl_answer : Tables → Parts → Result Wdl ProbeFault
wdl_answer tables p = if is_out_of_scope p then Err OutOfScope else as_probe (λ v. v) (wdl_of tables p)

-- it is what the tables say or out of scope, and never want of memory
abbrev pub IsWdlProbe : Tables → Parts → Result Wdl ProbeFault → Type 0
IsWdlProbe tables p wdl = (wdl ≢ Err OutOfMemory) × IsProbe wdl (is_out_of_scope p) (wdl_of tables p)

-- what is searched is there, no draw, and not by a capture
abbrev pub IsLeftOpen : Result CaptureSearch ValueFault → Type 0
IsLeftOpen (Ok w) = (worth w ≢ Draw) × (is_by_capture w ≡ false)
IsLeftOpen (Err fault) = ⊥

-- more than two men whose value is there, no draw, and not by a capture: only then moves are listed
abbrev pub ListsMoves : Tables → Parts → Type 0
ListsMoves tables p = (2 < count_of_men p) × IsLeftOpen (searched_by tables (wdl_of tables) p)

-- the value is there and a win or a loss: only then a verdict needs a distance
abbrev pub IsDecisive : Reading → Type 0
IsDecisive reading = (reading ≡ Ok Win) ⊎ (reading ≡ Ok Loss)

-- a move is left, the position is in scope, and its value is a win or a loss that no capture brings about: only then a verdict
-- lists moves
abbrev pub ListsMovesForVerdict : Tables → Parts → Type 0
ListsMovesForVerdict tables p = (has_no_move (legal_moves p) ≡ false) × (is_out_of_scope p ≡ false) × IsDecisive (wdl_of tables p) × ListsMoves tables p

-- a distance as a number
abbrev pub signed_in : Reach → Result ℤ ValueFault
signed_in (Ok d) = Ok (signed d)
signed_in (Err fault) = Err fault

-- a fault's name, as it is printed
abbrev pub probe_fault_name : ProbeFault → List ℕ
probe_fault_name OutOfScope = codes "OutOfScope"
probe_fault_name (NotCovered key) = codes "NotCovered"
probe_fault_name (Damaged key) = codes "Damaged"
probe_fault_name OutOfMemory = codes "OutOfMemory"
