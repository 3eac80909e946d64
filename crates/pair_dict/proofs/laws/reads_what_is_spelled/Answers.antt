use Rattle.pair_dict.proofs.Spelled as spelled
use Rattle.pair_dict.proofs.laws.reads_what_is_spelled.Goals as goal

pub returns : goal.returns
returns c = spelled.reads_what_is_spelled
