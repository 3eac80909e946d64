use Rattle.std.proofs.Common.{◌≡◌, ℕ, ◌<◌, Some}
use Rattle.std.specs.Prelude.{slice_get}
use Rattle.table_file.specs.declared.plan.PartPlan.{PartPlan}
use Rattle.table_file.specs.Tables.{nth_part}
use Rattle.table_file.specs.Forged.{IsPartOf}
use Rattle.table_file.proofs.forging.compared.are_parts.Given as goal

abbrev pub invariant-loop-k : goal.invariant-loop-k
invariant-loop-k l = (j : ℕ) (p : PartPlan) → j < l.k → slice_get l.plan.parts.items j ≡ Some p → IsPartOf l.plan.material (nth_part l.table j) p
