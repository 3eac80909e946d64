use Rattle.std.proofs.Common.{◌<◌, cond, sym, subst, arith}
use Rattle.place_index.specs.Men.{exchanged}
use Rattle.place_index.specs.Placed.{IsNamed, men_on}
use Rattle.place_index.proofs.LookUp.Colours.{named_by_tally, exchanged_by_tally, unlike_by_tally, named_if}
use Rattle.place_index.proofs.placed.is_exchanged.Goals as goal

pub returns-then-tally-clause-named : goal.returns-then-tally-clause-named
returns-then-tally-clause-named c =
    let known : c.args.material < 145 = omega (arith, c.key-key.ensures.is, c.key-key.ensures.below) in
    exchanged_by_tally c.args.material c.args.tally c.tally.result (men_on c.args.position.now.men) known c.requires.material c.requires.tally c.tally.ensures c.if-tally.true

pub returns-then-tally-clause-white : goal.returns-then-tally-clause-white
returns-then-tally-clause-white c symmetric =
    let known : c.args.material < 145 = omega (arith, c.key-key.ensures.is, c.key-key.ensures.below) in
    absurd (unlike_by_tally c.args.material c.args.tally c.tally.result (men_on c.args.position.now.men) known c.requires.material c.requires.tally c.tally.ensures c.if-tally.true symmetric)

pub returns-then-eq-clause-named : goal.returns-then-eq-clause-named
returns-then-eq-clause-named c =
    let known : c.args.material < 145 = omega (arith, c.key-key.ensures.is, c.key-key.ensures.below) in
    let named : IsNamed c.args.material (men_on c.args.position.now.men) =
    named_by_tally c.args.material c.args.tally c.tally.result (men_on c.args.position.now.men) known c.requires.material c.requires.tally c.tally.ensures c.if-tally.false in
    named_if c.args.material (men_on c.args.position.now.men) c.symmetric.result known named c.symmetric.ensures.0

pub returns-else-eq-clause-named : goal.returns-else-eq-clause-named
returns-else-eq-clause-named c =
    let known : c.args.material < 145 = omega (arith, c.key-key.ensures.is, c.key-key.ensures.below) in
    let named : IsNamed c.args.material (men_on c.args.position.now.men) =
    named_by_tally c.args.material c.args.tally c.tally.result (men_on c.args.position.now.men) known c.requires.material c.requires.tally c.tally.ensures c.if-tally.false in
    subst (λ b. IsNamed c.args.material (cond b (exchanged (men_on c.args.position.now.men)) (men_on c.args.position.now.men))) (sym c.if-eq.false) named
