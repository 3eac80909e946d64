use Rattle.std.proofs.Common.{◌≡◌, ◌*◌, ◌^◌, length}
use Rattle.pair_dict.specs.Inside.Layouts.{pairing_in}
use Rattle.pair_dict.specs.Inside.Runs.{AreJoined}
use Rattle.pair_dict.proofs.runs.joined_runs.Given as goal

abbrev pub invariant-loop-bits : goal.invariant-loop-bits
invariant-loop-bits l =
    record {
      joined : AreJoined (pairing_in l.layout).0 l.runs.items;
      lengths : length l.runs.items ≡ 2 * 2 ^ l.width;
    }
