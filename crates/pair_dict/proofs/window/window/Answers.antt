use Rattle.pair_dict.proofs.Numbers.{window_at}
use Rattle.pair_dict.proofs.window.window.Goals as goal

pub returns : goal.returns
returns c = window_at c.args.block.now c.args.at c.last_word_at.result c.last_word_at.ensures c.requires
