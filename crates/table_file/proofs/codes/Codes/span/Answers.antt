use Rattle.std.proofs.Common.{◌≤◌, ◌^◌, arith}
use Rattle.std.proofs.Math.Nat.{pow-le-pow_right}
use Rattle.table_file.proofs.Before.{even_power}
use Rattle.table_file.proofs.codes.Codes.span.Goals as goal

pub returns-clause-some : goal.returns-clause-some
returns-clause-some c =
    let some : 1 ≤ c.self.inside.span_exponent = c.self.invariant.some in
    let few : c.self.inside.span_exponent ≤ 31 = c.self.invariant.wide in
    let ge : 2 ^ 1 ≤ 2 ^ c.self.inside.span_exponent = pow-le-pow_right {n = 2} (omega arith) some in
    let le : 2 ^ c.self.inside.span_exponent ≤ 2 ^ 31 = pow-le-pow_right {n = 2} (omega arith) few in
    omega (arith, ge, le)

pub returns-clause-even : goal.returns-clause-even
returns-clause-even c =
    let some : 1 ≤ c.self.inside.span_exponent = c.self.invariant.some in
    let few : c.self.inside.span_exponent ≤ 31 = c.self.invariant.wide in
    let le : 2 ^ c.self.inside.span_exponent ≤ 2 ^ 31 = pow-le-pow_right {n = 2} (omega arith) few in
    omega (arith, le, even_power c.self.inside.span_exponent some)
