use Rattle.std.proofs.Common.{◌≡◌, ◌+◌, ◌*◌, ◌^◌, length, take, drop}
use Rattle.pair_dict.specs.Codes.{number_of}
use Rattle.table_file.specs.Plan.{code_of, codes_size}
use Rattle.table_file.specs.PlannedFile.{codes_number}
use Rattle.table_file.specs.Inside.Writing.{IsHeld}
use Rattle.table_file.proofs.forging.blocks.block_bytes.Given as goal

abbrev pub invariant-loop-symbol : goal.invariant-loop-symbol
invariant-loop-symbol l = record {
  held : IsHeld l.held;
  size : 8 * length l.bytes.items + l.held.count ≡ codes_size (code_of l.plan) (take l.symbol-index l.block);
  number : codes_number (code_of l.plan) (number_of l.bytes.items * 2 ^ l.held.count + l.held.bits) (drop l.symbol-index l.block) ≡ codes_number (code_of l.plan) 0 l.block;
}
