use Rattle.std.proofs.Common.{◌≡◌, ◌-◌}
use Rattle.board_core.specs.ComputedMoves.{captures_after}
use Rattle.board_core.specs.Inside.Search.{start_of}
use Rattle.board_core.proofs.position.Position.capture_after.Given as goal

abbrev pub invariant-captures : goal.invariant-captures
invariant-captures l = captures_after l.self l.fn.last ≡ captures_after l.self l.last

abbrev pub decreases-captures : goal.decreases-captures
decreases-captures l = 20480 - start_of l.last
