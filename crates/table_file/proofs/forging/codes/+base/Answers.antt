use Rattle.std.proofs.Common.{arith}
use Rattle.table_file.proofs.Laying.{base_one}
use Rattle.table_file.proofs.forging.codes.+base.Goals as goal

pub returns-in-len1 : goal.returns-in-len1
returns-in-len1 t c = base_one c.args.lowest.now (omega (arith, c.in-len1.len_below))
