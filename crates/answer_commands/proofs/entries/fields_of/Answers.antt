use Rattle.std.proofs.Common.{ap, length, arith}
use Rattle.std.specs.Prelude.{◌==◌}
use Rattle.fen_text.proofs.CutLaws.{is_cut}
use Rattle.answer_commands.proofs.entries.fields_of.Goals as goal

pub returns-in-Some-clause-none : goal.returns-in-Some-clause-none
returns-in-Some-clause-none c = λ three.
    let n1 = ap length c.in_ok-name.ensures.some in
    let n2 = ap length c.in_ok-start.ensures.some in
    let n3 = ap length c.in-Some.ensures.some in
    let more = is_cut (λ b. b == 9) c.in-Some.field-0.1.now in
    omega (arith, n1, n2, n3, more, three)
