use Rattle.std.proofs.Common.{ℕ, List, ◌+◌, ◌≤◌, length, refl, ◌∙◌, arith}
use Rattle.pair_dict.specs.Inside.Windows.{firsts_in, lowest_in}
use Rattle.pair_dict.specs.Inside.Words.{AreCodes, codes_in}
use Rattle.pair_dict.specs.declared.codes.CodeSearch.{CodeSearch}
use Rattle.pair_dict.proofs.FirstLemmas.{length-lowest_in, code_past, code_is}
use Rattle.pair_dict.proofs.WordLists.{length-codes_in}
use Rattle.pair_dict.proofs.codes.code_of.Goals as goal

few : (search : CodeSearch) (words bytes : List ℕ) → AreCodes search words bytes → search.least + length (lowest_in (codes_in search.lengths words)) ≤ 33
few search words bytes codes = omega (arith, codes.greatest, length-lowest_in (codes_in search.lengths words), length-codes_in search.lengths words codes.all)

pub returns-clause-past : goal.returns-clause-past
returns-clause-past c = λ block p is long.
    let search = c.args.search in
    let codes = codes_in search.lengths c.args.words.now in
    code_past search.symbols block p search.least c.args.front (lowest_in codes) (firsts_in codes) c.requires.codes.firsts is c.requires.front (few search c.args.words.now c.args.hints.now c.requires.codes) c.length_of-i.result.0 c.length_of-i.ensures.place long

pub returns-clause-is : goal.returns-clause-is
returns-clause-is c = λ block p is fits.
    let search = c.args.search in
    let codes = codes_in search.lengths c.args.words.now in
    code_is search.symbols block p search.least c.args.front (lowest_in codes) (firsts_in codes) c.requires.codes.firsts is c.requires.front (few search c.args.words.now c.args.hints.now c.requires.codes) c.length_of-i.result.0 c.length_of-i.ensures.place
    c.lowest.result c.first.result _ (c.lowest.ensures ∙ c.length_of-i.ensures.lowest) (c.first.ensures ∙ c.length_of-i.ensures.first) refl fits
