use Rattle.std.proofs.Common.{arith}
use Rattle.place_index.proofs.Shapes.Sizing.{sized_none, sized_more, sized_all, sized_left, squares_most}
use Rattle.place_index.proofs.sizes.all_sizes.Goals as goal

pub choices-requires-clause-things : goal.choices-requires-clause-things
choices-requires-clause-things c =
    let g = c.group-item.result in
    let left = sized_left c.args.first c.args.lead c.args.groups.now c.loop-group.group-index c.loop-group.free c.loop-group.sizes.items g g c.loop-group.invariant c.loop-group-test.true c.group-item.is c.requires.lead c.requires.men in
    omega (arith, c.squares-squares.ensures, left.2, squares_most c.args.lead c.loop-group.free g (omega (arith, left.1)))

pub loop-group-init : goal.loop-group-init
loop-group-init c = rw (c.push.ensures.items, c.new-sizes.ensures) (sized_none c.args.first c.args.lead c.args.groups.now)

pub loop-group-preserved : goal.loop-group-preserved
loop-group-preserved c =
    let g = c.group-item.result in
    let left = sized_left c.args.first c.args.lead c.args.groups.now c.loop-group.group-index c.loop-group.free c.loop-group.sizes.items g g c.loop-group.invariant c.loop-group-test.true c.group-item.is c.requires.lead c.requires.men in
    rw (c.push-in-loop-group.ensures.items, c.choices.ensures, c.squares-squares.ensures)
    (sized_more c.args.first c.args.lead c.args.groups.now c.loop-group.group-index c.loop-group.free c.loop-group.sizes.items g g c.loop-group.invariant c.loop-group-test.true c.group-item.is (omega (arith, left.0, left.1)))

pub returns-clause-is : goal.returns-clause-is
returns-clause-is c = sized_all c.args.first c.args.lead c.args.groups.now c.loop-group.group-index c.loop-group.free c.loop-group.sizes.items c.loop-group.invariant c.loop-group-test.false

pub returns-clause-len : goal.returns-clause-len
returns-clause-len c = omega (arith, c.loop-group.invariant.size, c.loop-group-test.false, c.loop-group.auto.group-index-end)

pub push-requires-in-loop-group : goal.push-requires-in-loop-group
push-requires-in-loop-group c = (omega arith, omega (arith, c.loop-group.invariant.size, c.loop-group-test.true, c.requires.groups))

pub choices-requires-clause-elements : goal.choices-requires-clause-elements
choices-requires-clause-elements c =
    (sized_left c.args.first c.args.lead c.args.groups.now c.loop-group.group-index c.loop-group.free c.loop-group.sizes.items c.group-item.result c.group-item.result
    c.loop-group.invariant c.loop-group-test.true c.group-item.is c.requires.lead c.requires.men).0
