use Rattle.std.proofs.Common.{◌∙◌, ap}
use Rattle.place_index.specs.Three.{triangle_number}
use Rattle.place_index.proofs.Indices.IndexTables.{triangle_table, triangle_most}
use Rattle.place_index.proofs.numbers.triangle_number.Goals as goal

pub returns-clause-is : goal.returns-clause-is
returns-clause-is c = triangle_table c.number.result c.number.ensures.on_board ∙ ap (λ s. triangle_number s) c.number.ensures.value

pub returns-clause-few : goal.returns-clause-few
returns-clause-few c = triangle_most c.number.result c.number.ensures.on_board
