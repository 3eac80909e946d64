use Rattle.std.proofs.Common.{◌<◌, ◌+◌, ◌*◌, ◌∙◌, slice_index, ap, arith}
use Rattle.place_index.specs.Material.{name_at}
use Rattle.place_index.proofs.Materials.KeyTables.{letter_table, letter_most}
use Rattle.place_index.proofs.material.letter.Goals as goal

pub returns-clause-is : goal.returns-clause-is
returns-clause-is c = letter_table c.key-key.result c.args.i c.key-key.ensures.below c.requires ∙ ap (λ k. slice_index (name_at k) c.args.i) c.key-key.ensures.is

pub returns-clause-ascii : goal.returns-clause-ascii
returns-clause-ascii c =
    let lt : c.key-key.result * 6 + c.args.i < 870 = omega (arith, c.key-key.ensures.below, c.requires) in
    omega (arith, letter_most (c.key-key.result * 6 + c.args.i) lt)
