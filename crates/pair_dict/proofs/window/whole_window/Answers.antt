use Rattle.std.proofs.Common.{arith}
use Rattle.pair_dict.proofs.Numbers.{window_at}
use Rattle.pair_dict.proofs.window.whole_window.Goals as goal

pub returns : goal.returns
returns c = window_at c.args.block.now c.args.at c.word_at.result c.word_at.ensures (omega (arith, c.requires))
