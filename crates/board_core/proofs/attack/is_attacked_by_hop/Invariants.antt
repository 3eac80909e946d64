use Rattle.std.proofs.Common.{◌<◌}
use Rattle.board_core.specs.declared.attack.KnightStep.{KnightStep}
use Rattle.board_core.specs.Inside.Search.{IsAttackedByKnight}
use Rattle.board_core.proofs.Outward.{place_of_step}
use Rattle.board_core.proofs.attack.is_attacked_by_hop.Given as goal

abbrev pub invariant-steps : goal.invariant-steps
invariant-steps l =
    (h : KnightStep) → place_of_step h < l.knight_step-index → IsAttackedByKnight l.men l.by h l.to → ⊥
