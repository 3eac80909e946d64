use Rattle.std.proofs.Common.{sym, arith}
use Rattle.std.proofs.lemmas.List.{drop_all, take_all}
use Rattle.sealed_port.proofs.key_file.first_line.Goals as goal

pub returns-then-text-lt-LINE_BYTES-clause-line : goal.returns-then-text-lt-LINE_BYTES-clause-line
returns-then-text-lt-LINE_BYTES-clause-line c = let short = c.if-text-lt-LINE_BYTES.true in sym (take_all 65 c.args.text.now (omega arith))

pub returns-then-text-lt-LINE_BYTES-clause-rest : goal.returns-then-text-lt-LINE_BYTES-clause-rest
returns-then-text-lt-LINE_BYTES-clause-rest c = let short = c.if-text-lt-LINE_BYTES.true in sym (drop_all 65 c.args.text.now (omega arith))
