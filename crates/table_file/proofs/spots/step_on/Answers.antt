use Rattle.std.proofs.Common.{◌<◌, get_or, arith}
use Rattle.table_file.specs.Sparse.{sizes_of}
use Rattle.table_file.proofs.Before.{before_mono, before_next, length-sizes}
use Rattle.table_file.proofs.spots.step_on.Goals as goal

pub returns-clause-damaged : goal.returns-clause-damaged
returns-clause-damaged g c =
    omega (arith, c.steps.invariant.same, before_mono (sizes_of c.args.lengths.now) c.args.real c.steps.block c.steps-test.false)

pub steps-preserved : goal.steps-preserved
steps-preserved g c =
    let sizes = sizes_of c.args.lengths.now in
    let next = before_next sizes c.steps.block (omega (arith, length-sizes c.args.lengths.now, c.steps-test.true, c.requires.real)) in
    record {
      same = omega (arith, next, c.steps.invariant.same, c.length.ensures.is, c.if-offset-size.false);
      each = omega (arith, c.steps.invariant.each, c.length.ensures.count);
      most = λ le. omega (arith, c.steps-test.true);
      cost = omega (arith, c.steps.invariant.cost, c.length.ensures.count, c.if-offset-size.false);
      near = λ lt.
          (let stood = c.steps.invariant.near lt in
          let here : c.args.place.offset < get_or sizes c.steps.block 0 = rw stood.0 lt in
          absurd (omega (arith, here, stood.1, c.length.ensures.is, c.if-offset-size.false)));
    }
