use Rattle.board_core.specs.Attack.{IsClear}
use Rattle.board_core.proofs.attack.is_attacked_along.Given as goal

abbrev pub invariant-loop-k : goal.invariant-loop-k
invariant-loop-k l = IsClear l.men l.direction l.k l.to
