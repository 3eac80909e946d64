use Rattle.std.proofs.Common.{sym}
use Rattle.relay_world.proofs.Told.{counted_is}
use Rattle.relay_world.proofs.world.World.kept.Goals as goal

pub returns-in-Some-clause-is : goal.returns-in-Some-clause-is
returns-in-Some-clause-is c stamp delay kept h = counted_is stamp delay _ c.in-Some.bytes.now c.summary.result (sym c.in-Some.ensures) c.summary.ensures.only kept h
