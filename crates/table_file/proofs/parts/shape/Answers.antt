use Rattle.std.proofs.Common.{◌∙◌, Err, ap, arith}
use Rattle.table_file.proofs.ShapeTests.{shape_is, no_pieces, no_order}
use Rattle.table_file.proofs.parts.shape.Goals as goal

pub returns-in-Ok-clause-is : goal.returns-in-Ok-clause-is
returns-in-Ok-clause-is c =
    rw c.in-Ok.ensures.shape (shape_is c.args.material.now c.args.pieces.now c.args.order c.args.second c.args.file c.in-Ok.ensures.good.0 c.in-Ok.ensures.good.1)

pub returns-in-Err-BadPieces-clause-is : goal.returns-in-Err-BadPieces-clause-is
returns-in-Err-BadPieces-clause-is c =
    no_pieces c.args.material.now c.args.pieces.now c.args.order c.args.second c.args.file (omega (arith, c.key.ensures.is, c.key.ensures.below))
    (c.new.ensures.bad_pieces.0 (c.in-Err-BadPieces.is ∙ ap (λ f. Err f) c.in-Err-BadPieces.field-0-is))

pub returns-in-Err-BadOrder-clause-is : goal.returns-in-Err-BadOrder-clause-is
returns-in-Err-BadOrder-clause-is c =
    let bad = c.new.ensures.bad_order (c.in-Err-BadOrder.is ∙ ap (λ f. Err f) c.in-Err-BadOrder.field-0-is) in
    no_order c.args.material.now c.args.pieces.now c.args.order c.args.second c.args.file bad.0 bad.1
