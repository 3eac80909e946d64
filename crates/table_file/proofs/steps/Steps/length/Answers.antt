use Rattle.std.proofs.Common.{arith}
use Rattle.table_file.proofs.Before.{size_at}
use Rattle.table_file.proofs.steps.Steps.length.Goals as goal

pub returns-clause-is : goal.returns-clause-is
returns-clause-is g c = omega (arith, size_at c.args.lengths.now c.args.block c.requires)
