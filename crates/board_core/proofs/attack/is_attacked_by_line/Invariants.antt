use Rattle.std.proofs.Common.{◌<◌}
use Rattle.board_core.specs.declared.attack.Direction.{Direction}
use Rattle.board_core.specs.Inside.Search.{IsAttackedAlong}
use Rattle.board_core.proofs.Outward.{place_of_direction}
use Rattle.board_core.proofs.attack.is_attacked_by_line.Given as goal

abbrev pub invariant-directions : goal.invariant-directions
invariant-directions l =
    (d : Direction) → place_of_direction d < l.direction-index → IsAttackedAlong l.men l.by d l.to → ⊥
