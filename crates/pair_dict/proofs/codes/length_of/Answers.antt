use Rattle.std.proofs.Common.{◌≤◌, ◌+◌, ◌/◌, get_or, arith}
use Rattle.pair_dict.specs.Inside.Windows.{firsts_in, lowest_in}
use Rattle.pair_dict.specs.Inside.Words.{codes_in}
use Rattle.pair_dict.proofs.FirstLemmas.{hinted, length-firsts_in, length-lowest_in, ends_at_zero, not_last, place_more}
use Rattle.pair_dict.proofs.WordLists.{length-codes_in}
use Rattle.pair_dict.proofs.codes.length_of.Goals as goal

pub code_length-code-requires-clause-known : goal.code_length-code-requires-clause-known
code_length-code-requires-clause-known c =
    let codes = codes_in c.args.search.lengths c.args.words.now in
    omega (arith, (c.requires.codes.hints.each (c.args.front / 67108864) (omega (arith, c.requires.front))).known, length-firsts_in codes, length-codes_in c.args.search.lengths c.args.words.now c.requires.codes.all)

pub up-init : goal.up-init
up-init c =
    let codes = codes_in c.args.search.lengths c.args.words.now in
    record {
      known = omega (arith, (c.requires.codes.hints.each (c.args.front / 67108864) (omega (arith, c.requires.front))).known, length-firsts_in codes, length-codes_in c.args.search.lengths c.args.words.now c.requires.codes.all);
      above = hinted (firsts_in codes) c.args.hints.now c.args.front c.requires.codes.hints c.requires.front;
      first = c.code_length-code.ensures.first;
      lowest = c.code_length-code.ensures.lowest;
    }

pub code_length-code-requires-in-up-clause-known : goal.code_length-code-requires-in-up-clause-known
code_length-code-requires-in-up-clause-known c =
    let codes = codes_in c.args.search.lengths c.args.words.now in
    let all = length-codes_in c.args.search.lengths c.args.words.now c.requires.codes.all in
    let i = c.up.invariant in
    let last = ends_at_zero c.args.search.least (lowest_in codes) (firsts_in codes) c.requires.codes.firsts (omega (arith, length-lowest_in codes, all, c.requires.codes.some)) in
    omega (arith, not_last (firsts_in codes) c.up.i c.args.front last (omega (arith, length-firsts_in codes, all, i.known)) (omega (arith, c.up-test.true, c.first.ensures, i.first)), length-firsts_in codes, all)

pub up-preserved : goal.up-preserved
up-preserved c =
    let codes = codes_in c.args.search.lengths c.args.words.now in
    let all = length-codes_in c.args.search.lengths c.args.words.now c.requires.codes.all in
    let i = c.up.invariant in
    let last = ends_at_zero c.args.search.least (lowest_in codes) (firsts_in codes) c.requires.codes.firsts (omega (arith, length-lowest_in codes, all, c.requires.codes.some)) in
    let here : c.args.front + 1 ≤ get_or (firsts_in codes) c.up.i 0 = omega (arith, c.up-test.true, c.first.ensures, i.first) in
    record {
      known = omega (arith, not_last (firsts_in codes) c.up.i c.args.front last (omega (arith, length-firsts_in codes, all, i.known)) (omega (arith, here)), length-firsts_in codes, all);
      above = place_more (firsts_in codes) c.up.i (c.args.front + 1) i.above here;
      first = c.code_length-code-in-up.ensures.first;
      lowest = c.code_length-code-in-up.ensures.lowest;
    }

pub returns-clause-place : goal.returns-clause-place
returns-clause-place c =
    let codes = codes_in c.args.search.lengths c.args.words.now in
    let i = c.up.invariant in
    record {
      known = omega (arith, length-firsts_in codes, length-codes_in c.args.search.lengths c.args.words.now c.requires.codes.all, i.known);
      missed = λ j lt. omega (arith, i.above j lt);
      reached = omega (arith, c.up-test.false, c.first.ensures, i.first);
    }
