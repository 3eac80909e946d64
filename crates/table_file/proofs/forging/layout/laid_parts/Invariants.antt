use Rattle.std.proofs.Common.{◌≡◌, ◌<◌, ◌/◌, ◌++◌, ℕ, Some, drop}
use Rattle.std.specs.Prelude.{slice_get}
use Rattle.table_file.specs.declared.plan.PartPlan.{PartPlan}
use Rattle.table_file.specs.Files.{side_count}
use Rattle.table_file.specs.Plan.{IsGoodPart}
use Rattle.table_file.specs.PlannedFile.{laid_parts}
use Rattle.table_file.proofs.forging.layout.laid_parts.Given as goal

abbrev pub invariant-loop-k : goal.invariant-loop-k
invariant-loop-k l = record {
  laid : l.laid.items ++ laid_parts l.plan.material (side_count l.plan.kind l.plan.material) l.k (drop l.k l.plan.parts.items) ≡ laid_parts l.plan.material (side_count l.plan.kind l.plan.material) 0 l.plan.parts.items;
  good : (j : ℕ) (p : PartPlan) → j < l.k → slice_get l.plan.parts.items j ≡ Some p → IsGoodPart l.plan.kind l.plan.material p (j / side_count l.plan.kind l.plan.material);
}
