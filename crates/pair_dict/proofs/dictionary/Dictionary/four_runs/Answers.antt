use Rattle.std.proofs.Common.{ℕ, ◌+◌, ◌*◌, ◌≤◌, List, arith}
use Rattle.pair_dict.specs.Inside.Runs.{AreTaken, IsRunAt, sum_bits, sum_values}
use Rattle.pair_dict.specs.Inside.Windows.{Shows}
use Rattle.pair_dict.proofs.PlaceLemmas.{taken_first, taken_more, either_sum}
use Rattle.pair_dict.proofs.RunLemmas.{no_run_at}
use Rattle.pair_dict.proofs.dictionary.Dictionary.four_runs.Goals as goal

pub loop-taken-init : goal.loop-taken-init
loop-taken-init c = record {
  are = λ block p shows. taken_first c.args.self.now block p c.none-sum.result c.args.buffer c.none-sum.ensures.values c.none-sum.ensures.bits shows;
  held = omega (arith, c.requires);
  values = omega (arith, c.none-sum.ensures.values);
  bits = omega (arith, c.none-sum.ensures.bits);
  last = omega (arith, c.none-run.ensures.bits);
  first = λ block p shows. no_run_at c.args.self.now block p (sum_values c.none-first.result) (sum_bits c.none-first.result) c.none-first.ensures.values c.none-first.ensures.bits;
  first_few = omega (arith, c.none-first.ensures.bits);
  first_fit = omega (arith, c.none-first.ensures.values);
}

pub loop-taken-preserved : goal.loop-taken-preserved
loop-taken-preserved c =
    let i = c.loop-taken.invariant in
    let few = c.run-run.ensures.few in
    let bits : sum_bits c.with-sum.result ≤ 13 * (c.loop-taken.taken + 1) = omega (arith, i.bits, c.with-sum.ensures.bits, few) in
    let taken : (block : List ℕ) (p : ℕ) → Shows block p c.args.buffer → AreTaken c.args.self.now block p c.with-sum.result c.without-rest.result = λ block p shows.
    taken_more c.args.self.now block p c.loop-taken.sum c.with-sum.result c.loop-taken.rest c.without-rest.result c.run-run.result (i.are block p shows)
    (λ here. c.run-run.ensures.is block _ here (omega (arith, few, i.held, c.loop-taken-test.true))) (omega (arith, few, i.held, c.loop-taken-test.true)) c.with-sum.ensures.values c.with-sum.ensures.bits
    (rw c.bits.ensures at c.without-rest.ensures.bits) (omega (arith, c.without-rest.ensures.held, c.bits.ensures)) in
    record {
      are = taken;
      held = omega (arith, few, i.held, c.without-rest.ensures.held, c.bits.ensures);
      values = omega (arith, i.values, c.with-sum.ensures.values);
      bits = bits;
      last = omega (arith, c.with-sum.ensures.bits);
      first = λ block p shows. either_sum (λ sum. IsRunAt c.args.self.now block p (sum_values sum) (sum_bits sum)) c.with-sum.result c.loop-taken.first c.or_more-first.result c.or_more-first.ensures.is (taken block p shows).run (i.first block p shows);
      first_few = either_sum (λ sum. sum_bits sum ≤ 52) c.with-sum.result c.loop-taken.first c.or_more-first.result c.or_more-first.ensures.is (omega (arith, bits, c.loop-taken-test.true)) i.first_few;
      first_fit = c.or_more-first.ensures.fits;
    }

pub returns-clause-are : goal.returns-clause-are
returns-clause-are c = λ block p shows. (c.loop-taken.invariant.are block p shows).run
