use Rattle.std.proofs.Common.{◌≡◌, ◌<◌, ◌*◌, ◌^◌, ◌≤◌, arith}
use Rattle.std.specs.Prelude.{◌%◌}
use Rattle.std.proofs.lemmas.Nat.{one_shl}
use Rattle.table_file.specs.Plan.{code_of}
use Rattle.table_file.proofs.Laying.{good_code, read_first}
use Rattle.table_file.proofs.forging.codes.is_good_code.Goals as goal

pub returns : goal.returns
returns c =
    let q = c.args.plan.now in
    let s = c.args.symbol in
    let is : c.code_of-code.result ≡ code_of q s = c.code_of-code.ensures.is in
    let some : 1 ≤ (code_of q s).length = rw is at c.if-code-lt1.false in
    let w : 1 * 2 ^ (code_of q s).length % 18446744073709551616 ≡ 2 ^ (code_of q s).length = one_shl (code_of q s).length 64 (omega (arith, (rw is at c.code_of-code.ensures.short))) in
    let high : (code_of q s).bits < 2 ^ (code_of q s).length = rw w at (rw is at c.if-code.false) in
    let read = rw (is, c.deref.ensures.value) at c.is_read.ensures in
    (λ t. good_code q s c.requires.known some high (read.0 t), λ h. read.1 (read_first q s h))
