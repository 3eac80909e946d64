use Rattle.std.proofs.Common.{◌≤◌, ◌^◌, arith}
use Rattle.std.proofs.Math.Nat.{pow-le-pow_right}
use Rattle.table_file.proofs.codes.Codes.block_size.Goals as goal

pub returns-clause-wide : goal.returns-clause-wide
returns-clause-wide c =
    let few : c.self.inside.block_exponent ≤ 24 = c.self.invariant.block in
    let le : 2 ^ c.self.inside.block_exponent ≤ 2 ^ 24 = pow-le-pow_right {n = 2} (omega arith) few in
    omega (arith, le)
