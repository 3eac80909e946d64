use Rattle.std.proofs.Common.{arith}
use Rattle.pair_dict.specs.Inside.Kept.{kept_pairing}
use Rattle.pair_dict.proofs.Longest.{limit_of_block}
use Rattle.pair_dict.specs.Inside.Nodes.{counts_in}
use Rattle.pair_dict.proofs.dictionary.Dictionary.limit_of.Goals as goal

pub returns-clause-same : goal.returns-clause-same
returns-clause-same c =
    rw (← c.self.view_is) (limit_of_block (kept_pairing c.self.inside) (counts_in c.self.inside.bytes.items) c.self.invariant.counts c.args.block.now c.args.count c.saturating_mul.result c.min.result
    c.self.invariant.codes.least (omega (arith, c.self.invariant.codes.greatest, c.self.invariant.codes.some)) c.saturating_mul.ensures c.ranges.count.fits c.min.ensures)
