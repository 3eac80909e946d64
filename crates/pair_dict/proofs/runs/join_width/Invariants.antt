use Rattle.std.proofs.Common.{◌≡◌, length}
use Rattle.pair_dict.specs.Inside.Layouts.{pairing_in}
use Rattle.pair_dict.specs.Inside.Runs.{AreJoined, IsTop}
use Rattle.pair_dict.proofs.runs.join_width.Given as goal

abbrev pub invariant-loop-i : goal.invariant-loop-i
invariant-loop-i l =
    record {
      top : IsTop l.firsts l.i l.top;
      joined : AreJoined (pairing_in l.layout).0 l.runs;
      lengths : length l.runs ≡ length l.fn.runs;
    }
