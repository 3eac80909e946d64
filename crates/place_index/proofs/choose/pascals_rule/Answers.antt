use Rattle.place_index.proofs.Counting.Choosing.{choose_none, choose_nothing, choose_step}
use Rattle.place_index.proofs.choose.pascals_rule.Goals as goal

pub returns : goal.returns
returns c = (choose_none, choose_nothing, choose_step)
