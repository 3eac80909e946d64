use Rattle.std.proofs.Common.{◌≡◌, length, ap, arith, ◌∙◌}
use Rattle.sealed_port.proofs.KeyLines.{length-key_line}
use Rattle.sealed_port.proofs.key_file.key_in.Goals as goal

pub returns-then-line-ne-LINE_BYTES-clause-none : goal.returns-then-line-ne-LINE_BYTES-clause-none
returns-then-line-ne-LINE_BYTES-clause-none c = λ h.
    let long : length c.args.line.now ≡ 65 = ap length h.2 ∙ length-key_line h.0 h.1 in
    let other = c.if-line-ne-LINE_BYTES.true in absurd (omega arith)
