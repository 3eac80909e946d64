use Rattle.pair_dict.specs.Inside.Kept.{kept_pairing}
use Rattle.pair_dict.proofs.Longest.{block_computed, block_begins}
use Rattle.pair_dict.specs.Inside.Nodes.{counts_in}
use Rattle.pair_dict.proofs.dictionary.Dictionary.block_is_computed.Goals as goal

pub returns-clause-computed : goal.returns-clause-computed
returns-clause-computed c = rw (← c.self.view_is) (block_computed (kept_pairing c.self.inside) (counts_in c.self.inside.bytes.items) c.args.block.now c.self.invariant.counts c.self.invariant.codes.least)

pub returns-clause-front : goal.returns-clause-front
returns-clause-front c = rw (← c.self.view_is) (block_begins (kept_pairing c.self.inside) (counts_in c.self.inside.bytes.items) c.args.block.now c.self.invariant.counts c.self.invariant.codes.least)
