use Rattle.std.proofs.Common.{◌≤◌, ◌<◌, length}
use Rattle.pair_dict.specs.Inside.Layouts.{pairing_in}
use Rattle.pair_dict.specs.Inside.Runs.{IsRunOf}
use Rattle.pair_dict.specs.declared.runs.CodeRun.{CodeRun}
use Rattle.pair_dict.proofs.runs.run_within.Given as goal

abbrev pub invariant-shorter : goal.invariant-shorter
invariant-shorter l =
    record {
      some : 1 ≤ l.place;
      known : l.place < length l.runs;
      serves : (run : CodeRun) → IsRunOf (pairing_in l.layout).0 l.place run → IsRunOf (pairing_in l.layout).0 l.fn.place run;
    }

abbrev pub decreases-shorter : goal.decreases-shorter
decreases-shorter l = l.place
