use Rattle.std.proofs.Common.{◌≡◌, ◌<◌, ◌+◌, ◌*◌, take}
use Rattle.std.specs.List.{All}
use Rattle.table_file.specs.Plan.{symbol_bytes, code_of, codes_size}
use Rattle.pair_dict.specs.Symbols.{symbol_count}
use Rattle.table_file.proofs.forging.blocks.fits_block.Given as goal

abbrev pub invariant-loop-symbol : goal.invariant-loop-symbol
invariant-loop-symbol l = record {
  left : l.left + codes_size (code_of l.plan) (take l.symbol-index l.block) ≡ 8 * l.size;
  known : All (λ s. s < symbol_count (symbol_bytes l.plan)) (take l.symbol-index l.block);
}
