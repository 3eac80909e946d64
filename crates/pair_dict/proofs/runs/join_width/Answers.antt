use Rattle.std.proofs.Common.{◌∙◌}
use Rattle.pair_dict.proofs.RunLemmas.{top_more}
use Rattle.pair_dict.proofs.runs.join_width.Goals as goal

pub loop-i-preserved : goal.loop-i-preserved
loop-i-preserved c = record {
  top = top_more c.args.firsts.now c.loop-i.i c.loop-i.top c.min-top.result c.loop-i.invariant.top c.min-top.ensures;
  joined = c.join_length.ensures.joined;
  lengths = c.join_length.ensures.lengths ∙ c.loop-i.invariant.lengths;
}
