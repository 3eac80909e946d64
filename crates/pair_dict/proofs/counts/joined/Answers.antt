use Rattle.std.proofs.Common.{refl}
use Rattle.pair_dict.proofs.NodeLemmas.{joins_equal}
use Rattle.pair_dict.proofs.counts.joined.Goals as goal

pub returns-then-is_equal_to : goal.returns-then-is_equal_to
returns-then-is_equal_to c =
    let one = c.if-is_equal_to.ensures refl in
    joins_equal c.args.nodes.now c.args.left c.args.right c.args.skipped one.0 _ c.requires.left c.requires.right one.1 one.2 one.1
