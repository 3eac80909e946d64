use Rattle.std.proofs.Common.{◌≡◌, ◌-◌, ◌≤◌, ◌+◌, ◌*◌, ◌^◌, length}
use Rattle.pair_dict.specs.Codes.{number_of}
use Rattle.table_file.proofs.forging.blocks.close.Given as goal

abbrev pub invariant-loop-bytes : goal.invariant-loop-bytes
invariant-loop-bytes l = record {
  fits : length l.bytes.items ≤ l.size;
  number : number_of l.bytes.items * 2 ^ (8 * (l.size - length l.bytes.items)) ≡ (number_of l.fn.bytes.items * 2 ^ l.fn.held.count + l.fn.held.bits) * 2 ^ (8 * l.size - (8 * length l.fn.bytes.items + l.fn.held.count));
}

abbrev pub decreases-loop-bytes : goal.decreases-loop-bytes
decreases-loop-bytes l = l.size - length l.bytes.items
