use Rattle.std.specs.Prelude.{IsTrue}
use Rattle.std.proofs.Common.{arith}
use Rattle.std.proofs.lemmas.List.{take_rest}
use Rattle.table_file.proofs.Laying.{read_whole}
use Rattle.table_file.proofs.forging.codes.+is_read.Goals as goal

pub returns-else-base-front : goal.returns-else-base-front
returns-else-base-front t c =
    read_whole c.args.least c.args.lowest.now c.args.code (IsTrue c.is_read.result) c.in-len1-up.len_at_least (omega (arith, c.if-base-front.false, c.base.ensures)) (rw (take_rest c.args.lowest.now 1) at c.is_read.ensures)
