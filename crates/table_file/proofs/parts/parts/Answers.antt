use Rattle.std.proofs.Common.{length, ap, arith}
use Rattle.std.specs.Vec.Iter.{into_iter_items}
use Rattle.std.proofs.lemmas.Result.{err_from_is_err_and}
use Rattle.std.proofs.lemmas.List.{length_push}
use Rattle.table_file.specs.Reading.{each_at}
use Rattle.table_file.specs.Files.{part_at}
use Rattle.table_file.proofs.Loops.{goes_on, ends, is_done, begins, nothing_left}
use Rattle.table_file.proofs.parts.parts.Goals as goal

pub shapes-init : goal.shapes-init
shapes-init c = record {
  read = rw (c.new-parts.ensures.items, c.into_iter-left.ensures.rest) (begins (each_at (part_at c.args.kind) c.args.shapes.items c.args.bytes.now));
  len = omega (arith, c.into_iter-left.ensures.len, c.args.shapes.ok.0, ap length c.into_iter-left.ensures.rest);
  all = omega (arith, ap length c.new-parts.ensures.items, ap length c.into_iter-left.ensures.rest);
}

pub returns-in_err-part-clause-is : goal.returns-in_err-part-clause-is
returns-in_err-part-clause-is c =
    let p = err_from_is_err_and c.from_residual.result c.from_residual.ensures.1 in
    let step = part_at c.args.kind in
    rw (p.1, p.2) (ends c.in_err-part.field-0.0 step c.shapes.parts.items c.in-Some.shape (into_iter_items c.shapes.left) (into_iter_items c.next.new.self) c.shapes.rest.now (each_at step c.args.shapes.items c.args.bytes.now)
    c.in-Some.ensures.cases.0 c.in_err-part.ensures c.shapes.invariant.read)

pub shapes-smaller : goal.shapes-smaller
shapes-smaller c = let one = c.in-Some.ensures.cases.1 in omega (arith, one)

pub shapes-preserved : goal.shapes-preserved
shapes-preserved c =
    let step = part_at c.args.kind in
    let one = c.in-Some.ensures.cases in record {
      read = rw c.in_ok-push.ensures.items (goes_on step c.shapes.parts.items c.in-Some.shape (into_iter_items c.shapes.left) (into_iter_items c.next.new.self) c.shapes.rest.now c.in_ok-part.part c.in_ok-part.after.now (each_at step c.args.shapes.items c.args.bytes.now)
          one.0 c.in_ok-part.ensures c.shapes.invariant.read);
      len = omega (arith, one.1, ap length one.0, c.shapes.invariant.len);
      all = omega (arith, ap length c.in_ok-push.ensures.items, length_push c.shapes.parts.items c.in_ok-part.part, ap length one.0, c.shapes.invariant.all);
    }

pub returns-clause-is : goal.returns-clause-is
returns-clause-is c =
    let step = part_at c.args.kind in
    is_done step c.shapes.parts.items (into_iter_items c.shapes.left) c.shapes.rest.now (each_at step c.args.shapes.items c.args.bytes.now)
    (nothing_left (into_iter_items c.shapes.left) (omega (arith, c.in_default.ensures.cases.0, c.shapes.invariant.len))) c.shapes.invariant.read

pub returns-clause-all : goal.returns-clause-all
returns-clause-all c = omega (arith, c.in_default.ensures.cases.0, c.shapes.invariant.len, c.shapes.invariant.all)
