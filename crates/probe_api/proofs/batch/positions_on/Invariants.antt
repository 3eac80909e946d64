use Rattle.std.proofs.Common.{take}
use Rattle.probe_api.specs.Inside.{AreShown}
use Rattle.probe_api.proofs.batch.positions_on.Given as goal

-- the boards before this place show these positions
abbrev pub invariant-loop-place : goal.invariant-loop-place
invariant-loop-place l = AreShown (take l.place l.boards) l.positions.items
