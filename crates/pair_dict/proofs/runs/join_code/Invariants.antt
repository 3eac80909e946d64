use Rattle.std.proofs.Common.{◌≡◌, length, IsTrue}
use Rattle.pair_dict.specs.Inside.Layouts.{pairing_in}
use Rattle.pair_dict.specs.Inside.Runs.{AreJoined, AreRunsWithin}
use Rattle.pair_dict.proofs.runs.join_code.Given as goal

abbrev pub invariant-loop-rest : goal.invariant-loop-rest
invariant-loop-rest l =
    record {
      joined : AreJoined (pairing_in l.layout).0 l.runs;
      lengths : length l.runs ≡ length l.fn.runs;
      fits : IsTrue l.all_fit → AreRunsWithin l.runs l.behind l.most;
    }
