use Rattle.pair_dict.proofs.FirstFault as first
use Rattle.pair_dict.proofs.laws.first_fault_is_told.Goals as goal

pub returns : goal.returns
returns c = first.first_fault_is_told
