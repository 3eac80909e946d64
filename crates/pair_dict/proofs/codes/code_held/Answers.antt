use Rattle.std.proofs.Common.{sym, ◌∙◌, arith}
use Rattle.pair_dict.specs.Inside.Windows.{IsFront}
use Rattle.pair_dict.proofs.FirstLemmas.{front_of_buffer}
use Rattle.pair_dict.proofs.CodeLemmas.{below_yes, below_no}
use Rattle.pair_dict.proofs.codes.code_held.Goals as goal

pub returns-then-symbol-search-clause-is : goal.returns-then-symbol-search-clause-is
returns-then-symbol-search-clause-is c = λ block p shows.
    let code = c.code_of-symbol.result in
    let front : IsFront block p c.front_32.result = rw c.front_32.ensures.is (front_of_buffer block p c.args.buffer shows c.requires.held) in
    sym (c.code_of-symbol.ensures.is block p front (omega (arith, shows.within, c.requires.held, c.code_of-symbol.ensures.short)) ∙ below_yes c.args.search.symbols code.0 code.1 c.if-symbol-search.true)

pub returns-else-symbol-search-clause-is : goal.returns-else-symbol-search-clause-is
returns-else-symbol-search-clause-is c = λ block p shows.
    let code = c.code_of-symbol.result in
    let front : IsFront block p c.front_32.result = rw c.front_32.ensures.is (front_of_buffer block p c.args.buffer shows c.requires.held) in
    sym (c.code_of-symbol.ensures.is block p front (omega (arith, shows.within, c.requires.held, c.code_of-symbol.ensures.short)) ∙ below_no c.args.search.symbols code.0 code.1 c.if-symbol-search.false)
