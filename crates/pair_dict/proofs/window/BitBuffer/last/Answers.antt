use Rattle.std.proofs.Common.{◌-◌, ◌*◌, ◌≡◌, ℕ, length, arith, subst}
use Rattle.pair_dict.specs.Inside.Windows.{Shows}
use Rattle.pair_dict.specs.declared.window.BitBuffer.{BitBuffer}
use Rattle.pair_dict.proofs.BufferLemmas.{shows_none, shows_after, shows_word}
use Rattle.pair_dict.proofs.window.BitBuffer.last.Goals as goal

pub returns-then-block-lt8 : goal.returns-then-block-lt8
returns-then-block-lt8 c = shows_none c.args.block.now c.args.at c.requires.at

pub returns-then-before-ge64 : goal.returns-then-before-ge64
returns-then-before-ge64 c = shows_none c.args.block.now c.args.at c.requires.at

abbrev whole : ℕ → BitBuffer
whole word = record { bits = word; held = 64 }

pub returns : goal.returns
returns c =
    let block = c.args.block.now in
    let start = length block - 8 in
    let before = c.args.at - 8 * start in
    let there : 8 * start ≡ c.args.at - before = omega (arith, c.requires.few, c.if-block-lt8.false) in
    let shown = shows_word block start c.word_at.result c.word_at.ensures (omega arith) (omega (arith, c.if-block-lt8.false)) in
    shows_after block c.args.at before (whole c.word_at.result) c.without.result (omega arith) (omega (arith, c.if-before-ge64.false)) (subst (λ (q : ℕ). Shows block q (whole c.word_at.result)) there shown) c.without.ensures.bits c.without.ensures.held
