use Rattle.std.proofs.Common.{arith, sym, subst}
use Rattle.place_index.specs.Placed.{IsMaterialOf, men_on}
use Rattle.place_index.proofs.LookUp.MenOn.{men_count}
use Rattle.place_index.proofs.LookUp.TallyKeys.{few_on, found_on, none_on}
use Rattle.place_index.proofs.placed.Placed.of.Goals as goal

pub returns-then-men-gt5-clause-none : goal.returns-then-men-gt5-clause-none
returns-then-men-gt5-clause-none c key lt is = few_on c.args.position.now.men key c.men.result lt is c.men.ensures.by_side c.if-men-gt5.true

pub men_on-count-requires : goal.men_on-count-requires
men_on-count-requires c = omega (arith, c.if-men-gt5.false, c.men.ensures.by_side, men_count 0 c.args.position.now.men)

pub returns-in_default-clause-none : goal.returns-in_default-clause-none
returns-in_default-clause-none c key lt is = c.in_default.ensures.none key lt (none_on c.args.position.now.men key c.men_on-count.result.1 lt c.men_on-count.ensures.tally is)

pub is_exchanged-exchanges-requires-clause-material : goal.is_exchanged-exchanges-requires-clause-material
is_exchanged-exchanges-requires-clause-material c =
    found_on c.args.position.now.men c.in-Some.material c.men_on-count.result.1 c.men_on-count.result.0 c.men_on-count.new.men c.in-Some.ensures.found.0 c.men_on-count.ensures.men c.men_on-count.ensures.few c.men_on-count.ensures.tally c.in-Some.ensures.found.1

pub returns-clause-material : goal.returns-clause-material
returns-clause-material c =
    let own =
    found_on c.args.position.now.men c.in-Some.material c.men_on-count.result.1 c.men_on-count.result.0 c.men_on-count.new.men c.in-Some.ensures.found.0 c.men_on-count.ensures.men c.men_on-count.ensures.few c.men_on-count.ensures.tally c.in-Some.ensures.found.1 in
    subst (λ k. IsMaterialOf k (men_on c.args.position.now.men)) (sym c.looked_up.ensures.material) own
