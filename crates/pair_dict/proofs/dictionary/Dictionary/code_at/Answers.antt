use Rattle.pair_dict.specs.Codes.{code_at}
use Rattle.pair_dict.proofs.dictionary.Dictionary.code_at.Goals as goal

pub returns-clause-is : goal.returns-clause-is
unfolding code_at
returns-clause-is c = rw (← c.self.view_is) (rw (c.self.invariant.all_symbols, c.deref.ensures.value) at c.code_in.ensures.is)
