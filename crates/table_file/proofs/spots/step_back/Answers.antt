use Rattle.std.proofs.Common.{◌<◌, inl, inr, arith}
use Rattle.table_file.specs.Sparse.{sizes_of}
use Rattle.table_file.proofs.Before.{before_some, before_prev, length-sizes}
use Rattle.table_file.proofs.spots.step_back.Goals as goal

pub overflow_sub-block : goal.overflow_sub-block
overflow_sub-block g c = omega (arith, c.steps.invariant.same, before_some (sizes_of c.args.lengths.now) c.steps.block (omega (arith, c.steps.invariant.same, c.requires.enough)))

pub steps-preserved : goal.steps-preserved
steps-preserved g c =
    let sizes = sizes_of c.args.lengths.now in
    let some : 0 < c.steps.block = before_some sizes c.steps.block (omega (arith, c.steps.invariant.same, c.requires.enough)) in
    let prev = before_prev sizes c.steps.block some (omega (arith, length-sizes c.args.lengths.now, c.steps.invariant.place, c.requires.block)) in
    record {
      same = omega (arith, prev, c.steps.invariant.same, c.length.ensures.is);
      each = omega (arith, c.steps.invariant.each, c.length.ensures.count, some);
      place = omega (arith, c.steps.invariant.place);
      cost = inr (elim c.steps.invariant.cost [
        | inl first ↦ (omega (arith, first.0, c.length.ensures.count), omega (arith, c.length.ensures.is))
        | inr later ↦ (omega (arith, later.0, c.length.ensures.count), omega (arith, c.length.ensures.is))
      ]);
    }
