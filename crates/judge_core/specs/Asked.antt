-- The values of the positions after some moves, and the first fault among them.
use Rattle.std.specs.Prelude.{ℕ, List, [], ◌∷◌, Option, Some, None, option_map, Result, Ok, Err, filter_map}
use Rattle.std.specs.Option.{option_or}
use Rattle.board_core.specs.declared.parts.Parts.{Parts}
use Rattle.board_core.specs.declared.moves.Move.{Move}
use Rattle.board_core.specs.ComputedMoves.{position_after}
use Rattle.judge_core.specs.declared.fault.Faults.{Faults}
use Rattle.judge_core.specs.declared.fault.ValueFault.{ValueFault}
use Rattle.judge_core.specs.declared.fault.ValueFault.TheVariants.{NotCovered, Damaged}

-- what `say` gives for the positions after these moves
abbrev pub asked : {X : Type 0} → (Parts → Result X ValueFault) → Parts → List Move → List (Result X ValueFault)
asked say p moves = filter_map (λ m. option_map say (position_after p m)) moves

abbrev pub not_covered : {X : Type 0} → Result X ValueFault → Option ℕ
not_covered (Ok x) = None
not_covered (Err (NotCovered key)) = Some key
not_covered (Err (Damaged key)) = None

abbrev pub damaged : {X : Type 0} → Result X ValueFault → Option ℕ
damaged (Ok x) = None
damaged (Err (NotCovered key)) = None
damaged (Err (Damaged key)) = Some key

-- the first thing that is said of the members
abbrev pub first : {X : Type 0} → (Result X ValueFault → Option ℕ) → List (Result X ValueFault) → Option ℕ
first say [] = None
first say (r ∷ rs) = option_or (say r) (first say rs)

-- the first table that is missing, and the first that is damaged
abbrev pub faults_in : {X : Type 0} → List (Result X ValueFault) → Faults
faults_in rs = record { not_covered = first not_covered rs; damaged = first damaged rs }

-- a missing table comes before a damaged one
abbrev pub missing_or_damaged : Option ℕ → Option ℕ → Option ValueFault
missing_or_damaged (Some key) other = Some (NotCovered key)
missing_or_damaged None (Some key) = Some (Damaged key)
missing_or_damaged None None = None

abbrev pub first_fault : Faults → Option ValueFault
first_fault f = missing_or_damaged f.not_covered f.damaged

-- the fault of a list: the first table that is missing, or else the first that is damaged
abbrev pub fault_in : {X : Type 0} → List (Result X ValueFault) → Option ValueFault
fault_in rs = first_fault (faults_in rs)

abbrev pub unless : {X : Type 0} → Option ValueFault → Result X ValueFault → Result X ValueFault
unless (Some fault) r = Err fault
unless None r = r

-- ---- as they come

abbrev pub no_faults : Faults
no_faults = record { not_covered = None; damaged = None }

-- one fault more
abbrev pub with_fault : Faults → ValueFault → Faults
with_fault f (NotCovered key) = record { not_covered = option_or f.not_covered (Some key); damaged = f.damaged }
with_fault f (Damaged key) = record { not_covered = f.not_covered; damaged = option_or f.damaged (Some key) }

-- one answer more
abbrev pub with_answer : {X : Type 0} → Faults → Result X ValueFault → Faults
with_answer f (Ok x) = f
with_answer f (Err fault) = with_fault f fault
