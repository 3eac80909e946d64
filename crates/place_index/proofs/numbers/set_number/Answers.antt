use Rattle.std.proofs.Common.{◌-◌, length, get_or, arith}
use Rattle.place_index.proofs.Counting.SetNumbers.{number_drop, number_end}
use Rattle.place_index.proofs.Counting.Choosing.{choose_few}
use Rattle.place_index.proofs.numbers.set_number.Goals as goal

pub overflow_add-sum : goal.overflow_add-sum
overflow_add-sum c =
    let few = choose_few (get_or c.args.numbers.now c.loop-i.i 0) (length c.args.numbers.now - c.loop-i.i) (c.requires.small c.loop-i.i c.loop-i-test.true) (omega (arith, c.requires.few)) in
    omega (arith, c.choices-sum.ensures, few, c.loop-i.invariant.most, c.loop-i-test.true, c.requires.few)

pub loop-i-preserved : goal.loop-i-preserved
loop-i-preserved c =
    let few = choose_few (get_or c.args.numbers.now c.loop-i.i 0) (length c.args.numbers.now - c.loop-i.i) (c.requires.small c.loop-i.i c.loop-i-test.true) (omega (arith, c.requires.few)) in
    record {
      is = omega (arith, c.loop-i.invariant.is, c.choices-sum.ensures, number_drop c.args.numbers.now c.loop-i.i c.loop-i-test.true);
      most = omega (arith, c.choices-sum.ensures, few, c.loop-i.invariant.most);
    }

pub returns-clause-is : goal.returns-clause-is
returns-clause-is c = omega (arith, c.loop-i.invariant.is, number_end c.args.numbers.now c.loop-i.i c.loop-i-test.false)

pub returns-clause-most : goal.returns-clause-most
returns-clause-most c = omega (arith, c.loop-i.invariant.most, c.loop-i.auto.i-end, c.requires.few)
