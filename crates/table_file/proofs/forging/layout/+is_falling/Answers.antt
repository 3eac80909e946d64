use Rattle.std.proofs.Common.{arith}
use Rattle.table_file.proofs.Laying.{falls_one}
use Rattle.table_file.proofs.forging.layout.+is_falling.Goals as goal

pub returns-in-len1 : goal.returns-in-len1
returns-in-len1 t c = falls_one c.args.lowest.now (omega (arith, c.in-len1.len_below))
