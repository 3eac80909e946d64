use Rattle.std.proofs.Common.{ℕ, List, ◌+◌, ap, ◌∙◌}
use Rattle.std.specs.Prelude.{◌%◌}
use Rattle.table_file.proofs.Agreeing.{done}
use Rattle.table_file.proofs.Opening.{no_setup, no_shape, with_shape, left_after}
use Rattle.table_file.proofs.parts.setup.Goals as goal
use Rattle.table_file.proofs.parts.setup.Goals.{then-place, else-place}

pub returns-in-Err-clause-is : goal.returns-in-Err-clause-is
returns-in-Err-clause-is c = λ sides k at. no_setup c.args.material.now sides k c.args.bytes.now c.in-Err.fault c.in-Err.ensures.is

pub returns-in-Err-side_shape-clause-is : goal.returns-in-Err-side_shape-clause-is
returns-in-Err-side_shape-clause-is c = λ sides k at.
    no_shape c.args.material.now sides k c.args.bytes.now ((c.in-Ok.read.0.0, c.in-Ok.read.0.1, c.in-Ok.read.0.2.now), c.in-Ok.read.1.now) c.in-Err-side_shape.fault c.in-Ok.ensures.is (rw (at.side, at.file) at c.in-Err-side_shape.ensures.is)

pub returns-after-place-clause-is : goal.returns-after-place-clause-is
returns-after-place-clause-is c = λ sides k at.
    let rest = c.in-Ok.read.1.now in
    let whole = with_shape c.args.material.now sides k c.args.bytes.now ((c.in-Ok.read.0.0, c.in-Ok.read.0.1, c.in-Ok.read.0.2.now), rest) c.in-Ok-side_shape.shape c.in-Ok.ensures.is (rw (at.side, at.file) at c.in-Ok-side_shape.ensures.is) in
    let left = left_after (k % sides + 1) sides c.args.place.is_last rest c.args.bytes.now at.last in
    elim c.if-place.branch [
      | then-place w ↦ rw w.result-is (whole ∙ ap (λ (l : List ℕ). done (c.in-Ok-side_shape.shape, l)) (rw w.if-place.true at left))
      | else-place w ↦ rw w.result-is (whole ∙ ap (λ (l : List ℕ). done (c.in-Ok-side_shape.shape, l)) (rw w.if-place.false at left))
    ]
