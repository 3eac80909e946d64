use Rattle.std.proofs.Common.{◌∙◌, ap, arith}
use Rattle.board_core.specs.declared.sides.Sides.{Sides}
use Rattle.board_core.specs.Sides.{side_squares}
use Rattle.board_core.proofs.Computed.{check_computed}
use Rattle.board_core.proofs.SideSets.{side_set, set_of_side}
use Rattle.board_core.proofs.king.is_in_check.Goals as goal

pub king_of-king-requires-clause-own : goal.king_of-king-requires-clause-own
king_of-king-requires-clause-own c = c.of_side.ensures ∙ ap (λ (x : Sides). side_squares x c.args.side) c.requires.sides ∙ side_set c.args.men.now c.args.side

pub is_attacked_from-requires : goal.is_attacked_from-requires
is_attacked_from-requires c = λ s _ t. rw c.of_side-2.ensures (set_of_side c.args.men.now c.other-other.result c.args.sides.now s c.requires.sides t)

pub returns-clause-relation : goal.returns-clause-relation
returns-clause-relation c = (
  λ t. record {
    king = c.king_of-king.result;
    on_board = omega arith;
    stands = c.king_of-king.ensures.stands;
    attacked = rw c.other-other.ensures at (c.is_attacked_from.ensures.0 t);
  },
  λ h. c.is_attacked_from.ensures.1 (rw (c.king_of-king.ensures.only h.king h.on_board h.stands, ← c.other-other.ensures) at h.attacked),
)

pub returns-clause-computed : goal.returns-clause-computed
returns-clause-computed c = check_computed _ _ _ (returns-clause-relation c)
