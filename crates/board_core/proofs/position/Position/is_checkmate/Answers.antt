use Rattle.board_core.proofs.NoMove.{mated, none_legal}
use Rattle.board_core.proofs.position.Position.is_checkmate.Goals as goal

pub returns-then-in_check-clause-relation : goal.returns-then-in_check-clause-relation
returns-then-in_check-clause-relation c =
    let none = none_legal c.args.self.now c.has_legal_move.result c.has_legal_move.ensures.relation in
    let check = c.in_check.ensures.relation.0 c.if-in_check.true in
    (λ t. (none.0 t, check), λ mate. none.1 mate.0)

pub returns-then-in_check-clause-computed : goal.returns-then-in_check-clause-computed
returns-then-in_check-clause-computed c = mated c.args.self.now c.in_check.result c.has_legal_move.result c.if-in_check.true c.in_check.ensures.computed c.has_legal_move.ensures.computed
