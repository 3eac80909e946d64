use Rattle.std.proofs.Common.{◌≡◌, ℕ, ◌-◌, ◌++◌, ◌≤◌, ◌<◌, length, take, drop, map}
use Rattle.std.specs.List.{All}
use Rattle.table_file.specs.Plan.{symbol_bytes, value_count, first_values}
use Rattle.table_file.specs.PlannedFile.{cut_lengths}
use Rattle.table_file.proofs.forging.blocks.lengths_of.Given as goal

abbrev pub invariant-loop-block : goal.invariant-loop-block
invariant-loop-block l = record {
  lengths : l.lengths.items ++ cut_lengths (map (λ block. value_count (symbol_bytes l.plan) block.items) (drop l.block-index l.plan.blocks.items)) l.left ≡ cut_lengths (map (λ block. value_count (symbol_bytes l.plan) block.items) l.plan.blocks.items) l.size;
  left : l.left ≡ l.size - length (first_values l.plan l.block-index);
  some : All (λ block. 1 ≤ value_count (symbol_bytes l.plan) block.items) (take l.block-index l.plan.blocks.items);
  few : All (λ block. value_count (symbol_bytes l.plan) block.items ≤ 65536) (take l.block-index l.plan.blocks.items);
  needed : (n : ℕ) → n < l.block-index → length (first_values l.plan n) < l.size;
}
