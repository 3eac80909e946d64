use Rattle.pair_dict.proofs.SymbolValues.{computed_values}
use Rattle.pair_dict.proofs.laws.values_are_computed.Goals as goal

pub returns : goal.returns
returns c = computed_values
