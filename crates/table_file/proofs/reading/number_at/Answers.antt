use Rattle.std.proofs.Common.{arith}
use Rattle.std.proofs.lemmas.List.{take_rest}
use Rattle.table_file.proofs.MapEntries.{byte_here, byte_behind}
use Rattle.table_file.proofs.reading.number_at.Goals as goal

pub returns : goal.returns
returns c =
    let xs = c.args.bytes.now in
    let i = c.args.at in
    let read = rw (take_rest xs i) at c.read_u32.ensures in
    omega (arith, read, byte_here xs i, byte_behind xs i 1, byte_behind xs i 2, byte_behind xs i 3)
