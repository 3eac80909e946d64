use Rattle.std.proofs.Common.{◌∙◌, ap}
use Rattle.place_index.specs.Three.{lower_number}
use Rattle.place_index.proofs.Indices.IndexTables.{lower_table, lower_most}
use Rattle.place_index.proofs.numbers.lower_number.Goals as goal

pub returns-clause-is : goal.returns-clause-is
returns-clause-is c = lower_table c.number.result c.number.ensures.on_board ∙ ap (λ s. lower_number s) c.number.ensures.value

pub returns-clause-few : goal.returns-clause-few
returns-clause-few c = lower_most c.number.result c.number.ensures.on_board
