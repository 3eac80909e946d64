use Rattle.std.proofs.Common.{◌≡◌}
use Rattle.board_core.specs.Inside.Material.{test_of, stands_below}
use Rattle.board_core.proofs.material.stands.Given as goal

abbrev pub invariant-loop-number : goal.invariant-loop-number
invariant-loop-number l = l.found ≡ stands_below (test_of l.wanted) l.position.men l.number
