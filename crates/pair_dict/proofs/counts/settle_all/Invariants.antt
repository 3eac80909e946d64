use Rattle.std.proofs.Common.{◌≢◌, ◌<◌, ℕ, get_or}
use Rattle.pair_dict.specs.Inside.Counts.{AreSettled}
use Rattle.pair_dict.specs.Inside.Nodes.{AreKnownNodes}
use Rattle.pair_dict.proofs.counts.settle_all.Given as goal

abbrev pub invariant-loop-symbol : goal.invariant-loop-symbol
invariant-loop-symbol l =
    record {
      settled : AreSettled l.symbols l.counts.items;
      nodes : AreKnownNodes l.symbols l.counts.items l.nodes.items;
      known : (s : ℕ) → s < l.symbol → get_or l.counts.items s 0 ≢ 0;
    }
