use Rattle.std.proofs.Common.{◌≡◌, ◌*◌, map, take, drop, Some}
use Rattle.table_file.specs.Figures.{block_size}
use Rattle.table_file.specs.Sparse.{sizes_of}
use Rattle.table_file.specs.Expansion.{joined}
use Rattle.table_file.proofs.forging.compared.are_values.Given as goal

abbrev pub invariant-loop-block : goal.invariant-loop-block
invariant-loop-block l =
    record {
      to : map (λ v. Some v) l.rest ≡ joined l.codes (drop l.block (take l.codes.blocks (sizes_of l.view.lengths.now))) (drop (l.block * block_size l.codes) l.view.blocks.now)
          → map (λ v. Some v) l.values ≡ joined l.codes (take l.codes.blocks (sizes_of l.view.lengths.now)) l.view.blocks.now;
      from : map (λ v. Some v) l.values ≡ joined l.codes (take l.codes.blocks (sizes_of l.view.lengths.now)) l.view.blocks.now
          → map (λ v. Some v) l.rest ≡ joined l.codes (drop l.block (take l.codes.blocks (sizes_of l.view.lengths.now))) (drop (l.block * block_size l.codes) l.view.blocks.now);
    }
