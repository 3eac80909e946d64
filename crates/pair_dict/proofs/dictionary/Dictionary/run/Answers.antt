use Rattle.std.proofs.Common.{arith, sym}
use Rattle.pair_dict.proofs.dictionary.Dictionary.run.Goals as goal

pub returns-clause-is : goal.returns-clause-is
returns-clause-is c = λ block p shows held.
    let i = c.self.invariant in
    let run = rw (← c.index.ensures) at (i.runs c.front.result c.index.result.now (omega (arith, i.all_runs, c.front.ensures.below))) in
    rw (← c.self.view_is) (run.is block p c.args.buffer shows (sym c.front.ensures.is) held)

pub returns-clause-few : goal.returns-clause-few
returns-clause-few c =
    let i = c.self.invariant in
    let run = rw (← c.index.ensures) at (i.runs c.front.result c.index.result.now (omega (arith, i.all_runs, c.front.ensures.below))) in
    omega (arith, run.short, i.few_bits)
