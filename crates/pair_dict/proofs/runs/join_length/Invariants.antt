use Rattle.std.proofs.Common.{◌≡◌, length}
use Rattle.pair_dict.specs.Inside.Layouts.{pairing_in}
use Rattle.pair_dict.specs.Inside.Runs.{AreJoined}
use Rattle.pair_dict.proofs.runs.join_length.Given as goal

abbrev pub invariant-loop-code : goal.invariant-loop-code
invariant-loop-code l =
    record {
      joined : AreJoined (pairing_in l.layout).0 l.runs;
      lengths : length l.runs ≡ length l.fn.runs;
    }
