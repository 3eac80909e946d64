use Rattle.std.proofs.Common.{◌<◌, ◌+◌, ◌*◌, arith}
use Rattle.place_index.proofs.Materials.KeyTables.{count_table, count_most}
use Rattle.place_index.proofs.material.Material.count.Goals as goal

pub returns-clause-is : goal.returns-clause-is
returns-clause-is c = rw (← c.key-key.ensures.is, ← c.number-code.ensures.is) (count_table c.key-key.result c.number-code.result c.key-key.ensures.below c.number-code.ensures.below)

pub returns-clause-few : goal.returns-clause-few
returns-clause-few c =
    let lt : c.key-key.result * 16 + c.number-code.result < 2320 = omega (arith, c.key-key.ensures.below, c.number-code.ensures.below) in
    count_most (c.key-key.result * 16 + c.number-code.result) lt
