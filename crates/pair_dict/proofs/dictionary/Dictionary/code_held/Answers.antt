use Rattle.pair_dict.specs.Codes.{code_at}
use Rattle.pair_dict.proofs.dictionary.Dictionary.code_held.Goals as goal

pub returns-clause-is : goal.returns-clause-is
unfolding code_at
returns-clause-is c = λ block p shows. rw (← c.self.view_is) (rw (c.self.invariant.all_symbols, c.deref.ensures.value) at c.code_held.ensures.is block p shows)
