use Rattle.std.proofs.Common.{arith}
use Rattle.pair_dict.specs.Inside.Layouts.{pairing_in}
use Rattle.pair_dict.proofs.RunLemmas.{is_code, code_run}
use Rattle.pair_dict.proofs.runs.join_length.Goals as goal

pub join_code-requires-clause-code : goal.join_code-requires-clause-code
join_code-requires-clause-code c =
    let d = (pairing_in c.args.layout.now).0 in
    let is = is_code d c.args.firsts.now c.args.one.more c.args.one.top c.loop-code.code c.word_of-lowest.result c.requires.firsts c.requires.top c.requires.known (omega (arith, c.requires.short, c.requires.few))
    c.loop-code.auto.code c.loop-code-test.true c.word_of-lowest.ensures (omega (arith, c.if-symbol-counts.false, c.requires.counts.lengths)) in
    rw c.of.ensures.bits is.high

pub join_code-requires-clause-single : goal.join_code-requires-clause-single
join_code-requires-clause-single c =
    let d = (pairing_in c.args.layout.now).0 in
    let is = is_code d c.args.firsts.now c.args.one.more c.args.one.top c.loop-code.code c.word_of-lowest.result c.requires.firsts c.requires.top c.requires.known (omega (arith, c.requires.short, c.requires.few))
    c.loop-code.auto.code c.loop-code-test.true c.word_of-lowest.ensures (omega (arith, c.if-symbol-counts.false, c.requires.counts.lengths)) in
    code_run d c.args.counts.now c.loop-code.code _ _ c.of.result c.requires.counts c.requires.least is c.of.ensures.bits (omega (arith, c.requires.short, c.requires.few)) c.of.ensures.values
