-- Probes, verdicts and outcomes of games as text (this project's own).
use Rattle.std.specs.Prelude.{ℕ, ℤ, List, ◌∷◌, ◌++◌, Option, Some, None, Result, Ok, Err, codes}
use Rattle.std.specs.Fmt.{decimal, signed_decimal}
use Rattle.board_core.specs.declared.verdict.Verdict.{Verdict}
use Rattle.board_core.specs.Verdicts.{verdict_name}
use Rattle.place_index.specs.Material.{name_of, men_of}
use Rattle.judge_core.specs.declared.game.GameOutcome.{GameOutcome}
use Rattle.judge_core.specs.declared.game.GameOutcome.TheVariants.{Ruled, Illegal, Going}
use Rattle.judge_core.specs.declared.fault.ProbeFault.{ProbeFault}
use Rattle.judge_core.specs.declared.fault.ProbeFault.TheVariants as probe
use Rattle.judge_core.specs.Answers.{probe_fault_name}

-- a fault's name, and that of the table that is missing or damaged
abbrev pub probe_fault_words : ProbeFault → List ℕ
probe_fault_words probe.OutOfScope = probe_fault_name probe.OutOfScope
probe_fault_words (probe.NotCovered key) = probe_fault_name (probe.NotCovered key) ++ codes " " ++ name_of (men_of key)
probe_fault_words (probe.Damaged key) = probe_fault_name (probe.Damaged key) ++ codes " " ++ name_of (men_of key)
probe_fault_words probe.OutOfMemory = probe_fault_name probe.OutOfMemory

-- the verdict's name, or that the game goes on
abbrev pub verdict_words : Option Verdict → List ℕ
verdict_words None = codes "open"
verdict_words (Some v) = verdict_name v

-- a number, or why there is none
unfoldable pub column_words : Result ℤ ProbeFault → List ℕ
column_words (Ok number) = signed_decimal number
column_words (Err fault) = codes "refused " ++ probe_fault_words fault

-- both probes and the verdict, with a tab between
abbrev pub columns_words : Result ℤ ProbeFault → Result ℤ ProbeFault → Option Verdict → List ℕ
columns_words wdl dtz verdict = column_words wdl ++ 9 ∷ column_words dtz ++ 9 ∷ verdict_words verdict

-- the outcome of a game of so many moves: the ply of its first verdict and the verdict, the place of its first illegal
-- move, or that it goes on
unfoldable pub outcome_words : GameOutcome → ℕ → List ℕ
outcome_words (Ruled ply verdict) plies = codes "ruled " ++ decimal ply ++ codes " " ++ verdict_name verdict
outcome_words (Illegal place) plies = codes "illegal " ++ decimal place
outcome_words Going plies = codes "open " ++ decimal plies
