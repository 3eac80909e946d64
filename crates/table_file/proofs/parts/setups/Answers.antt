use Rattle.std.proofs.Common.{◌≡◌, ◌<◌, ◌-◌, ◌+◌, ◌++◌, ◌∷◌, [], length, ap, subst, arith}
use Rattle.std.proofs.lemmas.Result.{err_from_is_err_and}
use Rattle.std.proofs.lemmas.List.{length_push}
use Rattle.std.specs.List.{range_with_len}
use Rattle.table_file.specs.Reading.{each_at}
use Rattle.table_file.specs.Files.{side_count, setup_at}
use Rattle.table_file.specs.Tables.{part_count}
use Rattle.table_file.specs.Inside.Places.{IsPlace}
use Rattle.table_file.proofs.Loops.{goes_on, ends, is_done, range_more, range_none}
use Rattle.table_file.proofs.parts.setups.Goals as goal

pub returns-in_err-shape-clause-is : goal.returns-in_err-shape-clause-is
returns-in_err-shape-clause-is c =
    let p = err_from_is_err_and c.from_residual.result c.from_residual.ensures.1 in
    let m = c.args.material.now in
    let sides = side_count c.args.kind m in
    let n = part_count c.args.kind m in
    let step = setup_at m sides in
    let front = c.places.shapes.items in
    let k = length front in
    let here : c.len.result ≡ k = omega (arith, c.len.ensures, c.places.shapes.ok.0) in
    let lt : k < n = omega (arith, c.in-Some.ensures.within, here) in
    let at = subst (λ j. IsPlace sides j c.in-Some.place) here c.in-Some.ensures.is in
    rw (p.1, p.2) (ends c.in_err-shape.field-0.0 step front k (range_with_len k (n - k)) (range_with_len (k + 1) (n - (k + 1))) c.places.rest.now (each_at step (range_with_len 0 n) c.args.bytes.now)
    (range_more k n lt) (c.in_err-shape.ensures.is sides k at) c.places.invariant.read)

pub places-smaller : goal.places-smaller
places-smaller c =
    omega (arith, c.in-Some.ensures.within, c.len.ensures, c.places.shapes.ok.0, ap length c.in_ok-push.ensures.items, length_push c.places.shapes.items c.in_ok-shape.shape)

pub places-preserved : goal.places-preserved
places-preserved c =
    let m = c.args.material.now in
    let sides = side_count c.args.kind m in
    let n = part_count c.args.kind m in
    let step = setup_at m sides in
    let front = c.places.shapes.items in
    let k = length front in
    let here : c.len.result ≡ k = omega (arith, c.len.ensures, c.places.shapes.ok.0) in
    let lt : k < n = omega (arith, c.in-Some.ensures.within, here) in
    let at = subst (λ j. IsPlace sides j c.in-Some.place) here c.in-Some.ensures.is in
    let more : length (front ++ c.in_ok-shape.shape ∷ []) ≡ k + 1 = length_push front c.in_ok-shape.shape in
    record {
      read = rw (c.in_ok-push.ensures.items, more) (goes_on step front k (range_with_len k (n - k)) (range_with_len (k + 1) (n - (k + 1))) c.places.rest.now c.in_ok-shape.shape c.in_ok-shape.after.now (each_at step (range_with_len 0 n) c.args.bytes.now)
          (range_more k n lt) (c.in_ok-shape.ensures.is sides k at) c.places.invariant.read);
      few = omega (arith, lt, ap length c.in_ok-push.ensures.items, more);
    }

pub returns-clause-is : goal.returns-clause-is
returns-clause-is c =
    let m = c.args.material.now in
    let n = part_count c.args.kind m in
    let step = setup_at m (side_count c.args.kind m) in
    let front = c.places.shapes.items in
    is_done step front (range_with_len (length front) (n - length front)) c.places.rest.now (each_at step (range_with_len 0 n) c.args.bytes.now)
    (range_none (length front) n (omega (arith, c.in_default.ensures.none, c.len.ensures, c.places.shapes.ok.0))) c.places.invariant.read

pub returns-clause-all : goal.returns-clause-all
returns-clause-all c = omega (arith, c.in_default.ensures.none, c.len.ensures, c.places.shapes.ok.0, c.places.invariant.few)
