use Rattle.std.proofs.Common.{arith}
use Rattle.json_lines.proofs.Pieces.{plain_more}
use Rattle.json_lines.proofs.text.are_plain.Goals as goal

pub loop-byte-preserved : goal.loop-byte-preserved
loop-byte-preserved c = plain_more c.args.text.now c.loop-byte.byte-index c.loop-byte-test.true (λ e. grind (arith, e, c.if-byte-eq34.false)) (λ e. grind (arith, e, c.if-byte-eq92.false)) (omega (arith, c.if-byte-lt32.false)) c.loop-byte.invariant
