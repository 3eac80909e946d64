use Rattle.pair_dict.proofs.SymbolValues.{unique_values}
use Rattle.pair_dict.proofs.laws.values_are_unique.Goals as goal

pub returns : goal.returns
returns c = unique_values
