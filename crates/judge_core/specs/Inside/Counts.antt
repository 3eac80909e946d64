-- What the code has counted on its way through the quiet moves, and through the pawn moves.
use Rattle.std.specs.Prelude.{ℕ, max, ◌≤◌, Bool, true, false, ◌||◌, Option, Some, None, IfSome, Result, Ok, Err, if◌then◌else◌}
use Rattle.judge_core.specs.declared.fault.ValueFault.{ValueFault}
use Rattle.judge_core.specs.declared.fault.ValueFault.TheVariants.{Damaged}
use Rattle.judge_core.specs.declared.distance.Distance.TheVariants.{Loss}
use Rattle.judge_core.specs.declared.counts.Counts.{Counts}
use Rattle.judge_core.specs.declared.counts.Steps.{Steps}
use Rattle.table_file.specs.declared.outcome.Outcome.{Outcome}
use Rattle.judge_core.specs.declared.wdl.Wdl.{Wdl}
use Rattle.judge_core.specs.Values.{Reading}
use Rattle.judge_core.specs.Asked.{first_fault, unless, no_faults, with_fault, with_answer}
use Rattle.judge_core.specs.Distances.{Reach, is_won, is_value, zeroing, lesser, won_in}

-- ---- pawn moves

-- before the first of them
abbrev pub no_steps : Steps
no_steps = record { faults = no_faults; reached = false }

-- one reading more
abbrev pub with_reading : Wdl → Steps → Reading → Steps
with_reading v s r = record { faults = with_answer s.faults r; reached = s.reached || is_value v r }

abbrev pub steps_result : Steps → Result Bool ValueFault
steps_result s = unless (first_fault s.faults) (Ok s.reached)

-- ---- quiet moves

-- before the first of them
abbrev pub no_counts : Outcome → Counts
no_counts outcome = record { faults = no_faults; least = None; greatest = zeroing outcome; odd = false }

-- one move more
abbrev pub with_count : Counts → Result (Option ℕ) ValueFault → Counts
with_count c (Ok None) = record { faults = c.faults; least = c.least; greatest = c.greatest; odd = true }
with_count c (Ok (Some n)) = record { faults = c.faults; least = lesser c.least n; greatest = max c.greatest n; odd = c.odd }
with_count c (Err fault) = record { faults = with_fault c.faults fault; least = c.least; greatest = c.greatest; odd = c.odd }

-- the same as by all counts
abbrev pub counts_result : ℕ → Outcome → Counts → Reach
counts_result key outcome c =
    unless (first_fault c.faults) (if is_won outcome then won_in key c.least else if c.odd then Err (Damaged key) else Ok (Loss c.greatest))

-- the numbers are no greater than this one
abbrev pub AreWithin : ℕ → Counts → Type 0
AreWithin n c = IfSome c.least (λ m. m ≤ n) × (c.greatest ≤ n)
