use Rattle.std.proofs.Common.{◌∙◌, ap}
use Rattle.place_index.specs.Pawns.{pawn_number}
use Rattle.place_index.proofs.Indices.IndexTables.{number_table}
use Rattle.place_index.proofs.squares.pawn_number.Goals as goal

pub returns : goal.returns
returns c = number_table c.number.result c.number.ensures.on_board ∙ ap pawn_number c.number.ensures.value
