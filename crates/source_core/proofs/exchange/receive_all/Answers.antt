use Rattle.std.proofs.Common.{arith, sym}
use Rattle.source_core.proofs.TryLaws.{heard_more, heard_none, try_ended, try_full, try_ruled}
use Rattle.source_core.proofs.exchange.receive_all.Goals as goal

pub loop-init : goal.loop-init
loop-init g c = heard_none _ _ _

pub returns-then-is_ruled : goal.returns-then-is_ruled
returns-then-is_ruled g c = try_ruled _ _ _ _ _ _ _ _ c.loop.invariant (sym c.if-is_ruled.ensures)

pub loop-preserved : goal.loop-preserved
loop-preserved g c = heard_more _ _ _ _ _ _ _ _ _ c.loop.invariant c.in-GoesOn.ensures

pub returns-in_default : goal.returns-in_default
returns-in_default g c = try_ended _ _ _ _ _ _ _ _ _ _ _ _ c.loop.invariant c.wait_at-wait.ensures c.receive_one.ensures c.in_default.not-GoesOn

pub returns : goal.returns
returns g c = try_full _ _ _ _ _ _ _ _ c.loop.invariant (omega arith)
