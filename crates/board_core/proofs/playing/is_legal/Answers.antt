use Rattle.std.proofs.Common.{◌∙◌, ap, arith}
use Rattle.std.proofs.lemmas.Bool.{false≢true}
use Rattle.board_core.proofs.Safety.{safe_legal, legal_safe, same_case, no_case}
use Rattle.board_core.proofs.ComputedLists.{legal_computed}
use Rattle.board_core.proofs.SideSets.{side_set, set_of_side}
use Rattle.board_core.proofs.SoleKing.{one_king}
use Rattle.board_core.specs.declared.sides.Sides.{Sides}
use Rattle.board_core.specs.Sides.{side_squares}
use Rattle.board_core.proofs.playing.is_legal.Goals as goal

pub king_of-king-requires-clause-one : goal.king_of-king-requires-clause-one
king_of-king-requires-clause-one c = one_king c.args.p.now c.args.p.now.side c.requires.position

pub king_of-king-requires-clause-own : goal.king_of-king-requires-clause-own
king_of-king-requires-clause-own c =
    c.of_side.ensures ∙ ap (λ (x : Sides). side_squares x c.args.p.now.side) c.requires.sides ∙ side_set c.args.p.now.men c.args.p.now.side

pub is_safe-requires-clause-enemy : goal.is_safe-requires-clause-enemy
is_safe-requires-clause-enemy c = λ s _ t. rw (c.of_side-in-Some.ensures, c.other.ensures) (set_of_side c.args.p.now.men _ c.args.sides.now s c.requires.sides t)

pub returns-in-Some-clause-relation : goal.returns-in-Some-clause-relation
returns-in-Some-clause-relation c = (
  λ t. safe_legal _ _ c.in-Some.case (omega arith) (omega arith) c.in-Some.ensures.found (c.is_safe.ensures.0 t),
  λ l. c.is_safe.ensures.1 (legal_safe c.args.p.now c.args.m.now c.in-Some.case l (same_case c.args.p.now c.args.m.now c.case_of.result c.in-Some.case c.case_of.ensures.only c.in-Some.is l)),
)

pub returns-in-Some-clause-computed : goal.returns-in-Some-clause-computed
returns-in-Some-clause-computed c = legal_computed _ _ _ (returns-in-Some-clause-relation c)

pub returns-in-None-clause-relation : goal.returns-in-None-clause-relation
returns-in-None-clause-relation c = (
  λ t. absurd (false≢true t),
  λ l. absurd (no_case c.args.p.now c.args.m.now c.case_of.result c.case_of.ensures.only c.in-None.is l),
)

pub returns-in-None-clause-computed : goal.returns-in-None-clause-computed
returns-in-None-clause-computed c = legal_computed _ _ _ (returns-in-None-clause-relation c)
