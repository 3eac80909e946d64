use Rattle.std.proofs.Common.{ap, length, arith}
use Rattle.std.specs.Prelude.{◌==◌}
use Rattle.fen_text.proofs.CutLaws.{is_cut}
use Rattle.fen_text.proofs.cuts.six_fields.Goals as goal

pub returns-in-Some-clause-none : goal.returns-in-Some-clause-none
returns-in-Some-clause-none c = λ six.
    let n1 = ap length c.in_ok-placement.ensures.some in
    let n2 = ap length c.in_ok-side.ensures.some in
    let n3 = ap length c.in_ok-castling.ensures.some in
    let n4 = ap length c.in_ok-en_passant.ensures.some in
    let n5 = ap length c.in_ok-halfmove.ensures.some in
    let n6 = ap length c.in-Some.ensures.some in
    let more = is_cut (λ b. b == 32) c.in-Some.field-0.1.now in
    omega (arith, n1, n2, n3, n4, n5, n6, more)
