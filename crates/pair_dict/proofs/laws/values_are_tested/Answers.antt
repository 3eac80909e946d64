use Rattle.pair_dict.proofs.ValueCounts.{test_of_values}
use Rattle.pair_dict.proofs.laws.values_are_tested.Goals as goal

pub returns : goal.returns
returns c = test_of_values
