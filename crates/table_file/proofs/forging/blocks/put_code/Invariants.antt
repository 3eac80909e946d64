use Rattle.std.proofs.Common.{◌≡◌, ◌<◌, ◌+◌, ◌*◌, ◌^◌, ◌≤◌, length}
use Rattle.pair_dict.specs.Codes.{number_of}
use Rattle.table_file.proofs.forging.blocks.put_code.Given as goal

abbrev pub invariant-loop-count : goal.invariant-loop-count
invariant-loop-count l = record {
  bits : l.bits < 2 ^ l.count;
  few : l.count ≤ 39;
  size : 8 * length l.bytes.items + l.count ≡ 8 * length l.initial.bytes.items + l.initial.count;
  number : number_of l.bytes.items * 2 ^ l.count + l.bits ≡ number_of l.initial.bytes.items * 2 ^ l.initial.count + l.initial.bits;
}

abbrev pub decreases-loop-count : goal.decreases-loop-count
decreases-loop-count l = l.count
