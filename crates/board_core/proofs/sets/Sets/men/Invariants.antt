use Rattle.std.proofs.Common.{◌-◌}
use Rattle.board_core.specs.Sets.{men_shown}
use Rattle.board_core.proofs.Shown.{IsCopied}
use Rattle.board_core.proofs.sets.Sets.men.Given as goal

abbrev pub invariant-squares : goal.invariant-squares
invariant-squares l = IsCopied (men_shown l.self) l.men l.next l.rest

abbrev pub decreases-squares : goal.decreases-squares
decreases-squares l = 64 - l.next
