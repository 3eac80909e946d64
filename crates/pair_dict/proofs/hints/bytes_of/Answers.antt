use Rattle.pair_dict.proofs.NodeLemmas.{counts_back, hints_stay}
use Rattle.pair_dict.specs.Inside.Hints.{less_one}
use Rattle.pair_dict.proofs.hints.bytes_of.Goals as goal

pub returns-clause-hints : goal.returns-clause-hints
returns-clause-hints c = rw c.in_ok-add_counts.ensures (hints_stay c.args.firsts.now c.in_ok-bytes.bytes.items (less_one c.args.counts.now) c.in_ok-bytes.ensures.hints)

pub returns-clause-counts : goal.returns-clause-counts
returns-clause-counts c = rw c.in_ok-add_counts.ensures (counts_back c.in_ok-bytes.bytes.items c.args.counts.now c.in_ok-bytes.ensures.all c.requires.some)
