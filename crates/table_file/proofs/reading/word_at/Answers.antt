use Rattle.std.proofs.Common.{arith}
use Rattle.std.proofs.lemmas.List.{take_rest}
use Rattle.table_file.proofs.MapEntries.{byte_here, byte_behind}
use Rattle.table_file.proofs.reading.word_at.Goals as goal

pub returns : goal.returns
returns c =
    let xs = c.args.bytes.now in
    let i = c.args.at in
    let read = rw (take_rest xs i) at c.read_u16.ensures in
    omega (arith, read, byte_here xs i, byte_behind xs i 1)
