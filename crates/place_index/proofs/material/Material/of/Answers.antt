use Rattle.std.proofs.Common.{arith}
use Rattle.std.proofs.lemmas.Option.{IfSome_then}
use Rattle.place_index.proofs.LookUp.MenOn.{men_count}
use Rattle.place_index.proofs.LookUp.TallyKeys.{few_on, found_on, none_on, IfNone_then}
use Rattle.place_index.proofs.material.Material.of.Goals as goal

pub returns-then-men-gt5-clause-none : goal.returns-then-men-gt5-clause-none
returns-then-men-gt5-clause-none c key lt is = few_on c.args.position.now.men key c.men.result lt is c.men.ensures.by_side c.if-men-gt5.true

pub men_on-tally-requires : goal.men_on-tally-requires
men_on-tally-requires c = omega (arith, c.if-men-gt5.false, c.men.ensures.by_side, men_count 0 c.args.position.now.men)

pub returns-clause-found : goal.returns-clause-found
returns-clause-found c =
    IfSome_then c.material_by_tally.result c.material_by_tally.ensures.found
    (λ m has. found_on c.args.position.now.men m c.men_on-tally.result.1 c.men_on-tally.result.0 c.men_on-tally.new.men has.0 c.men_on-tally.ensures.men c.men_on-tally.ensures.few c.men_on-tally.ensures.tally has.1)

pub returns-clause-none : goal.returns-clause-none
returns-clause-none c =
    IfNone_then c.material_by_tally.result c.material_by_tally.ensures.none (λ none key lt is. none key lt (none_on c.args.position.now.men key c.men_on-tally.result.1 lt c.men_on-tally.ensures.tally is))
