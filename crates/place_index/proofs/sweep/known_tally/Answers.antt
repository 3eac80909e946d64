use Rattle.std.proofs.Common.{◌∷◌, [], ◌∙◌, ap}
use Rattle.place_index.specs.Material.{tally_of}
use Rattle.place_index.proofs.Materials.Tallies.{code_tally_table, code_tally_most}
use Rattle.place_index.proofs.sweep.known_tally.Goals as goal

pub returns-clause-is : goal.returns-clause-is
returns-clause-is c = code_tally_table c.number.result c.number.ensures.below ∙ ap (λ k. tally_of (k ∷ [])) c.number.ensures.is

pub returns-clause-most : goal.returns-clause-most
returns-clause-most c = code_tally_most c.number.result c.number.ensures.below
