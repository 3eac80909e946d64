use Rattle.std.proofs.Common.{◌≡◌, ◌∙◌, ◌<◌, ◌+◌, ◌-◌, sym, arith, length}
use Rattle.pair_dict.specs.Reading.{words}
use Rattle.pair_dict.proofs.WordLemmas.{length-words, falls_end, falls_on, falls_not}
use Rattle.pair_dict.proofs.layout.is_falling.Goals as goal

pub word_of-requires : goal.word_of-requires
word_of-requires c = omega (arith, length-words c.args.bytes.now)

pub word_of-requires-in-loop-i : goal.word_of-requires-in-loop-i
word_of-requires-in-loop-i c = omega (arith, length-words c.args.bytes.now)

pub returns-then-word_of : goal.returns-then-word_of
returns-then-word_of c =
    let ws = words c.args.bytes.now in
    let lt : c.loop-i.i < length ws = omega (arith, length-words c.args.bytes.now, c.loop-i-test.true) in
    sym (falls_not ws c.loop-i.i c.loop-i.auto.i lt (omega (arith, c.word_of.ensures, c.word_of-in-loop-i.ensures, c.if-word_of.true))) ∙ c.loop-i.invariant

pub loop-i-preserved : goal.loop-i-preserved
loop-i-preserved c =
    let ws = words c.args.bytes.now in
    let lt : c.loop-i.i < length ws = omega (arith, length-words c.args.bytes.now, c.loop-i-test.true) in
    let e : c.loop-i.i + 1 - 1 ≡ c.loop-i.i = omega arith in
    rw e (sym (falls_on ws c.loop-i.i c.loop-i.auto.i lt (omega (arith, c.word_of.ensures, c.word_of-in-loop-i.ensures, c.if-word_of.false))) ∙ c.loop-i.invariant)

pub returns : goal.returns
returns c = sym (falls_end (words c.args.bytes.now) c.loop-i.i (omega (arith, length-words c.args.bytes.now, c.loop-i-test.false)) (omega arith)) ∙ c.loop-i.invariant
