use Rattle.std.proofs.Common.{◌+◌, ◌*◌, ◌∙◌, ap, slice_index, arith}
use Rattle.place_index.specs.declared.tables.TheConstants.{KINGS}
use Rattle.place_index.proofs.Indices.KingOrder.{triangle_ten}
use Rattle.place_index.proofs.Indices.KingTable.{king_table}
use Rattle.place_index.proofs.numbers.kings_number.Goals as goal

pub bounds-triangle : goal.bounds-triangle
bounds-triangle c = omega (arith, triangle_ten c.args.a c.requires.board0 c.requires.under0 c.requires.left, c.triangle_number-triangle.ensures.is, c.number.ensures.on_board)

pub returns : goal.returns
returns c =
    ap (λ s. slice_index KINGS (c.triangle_number-triangle.result * 64 + s)) c.number.ensures.value
    ∙ ap (λ t. slice_index KINGS (t * 64 + c.args.b)) c.triangle_number-triangle.ensures.is ∙ king_table c.args.a c.args.b c.requires
