use Rattle.std.proofs.Common.{ap, not}
use Rattle.std.proofs.lemmas.Bool.Decides.{Decides-not}
use Rattle.board_core.proofs.NoMove.{none_legal, stale}
use Rattle.board_core.proofs.position.Position.is_stalemate.Goals as goal

pub returns-then-not-in_check-clause-relation : goal.returns-then-not-in_check-clause-relation
returns-then-not-in_check-clause-relation c =
    let none = none_legal c.args.self.now c.has_legal_move.result c.has_legal_move.ensures.relation in
    let free = Decides-not _ c.in_check.ensures.relation in
    (λ t. (none.0 t, free.0 (ap not c.if-not-in_check.true)), λ mate. none.1 mate.0)

pub returns-then-not-in_check-clause-computed : goal.returns-then-not-in_check-clause-computed
returns-then-not-in_check-clause-computed c = stale c.args.self.now c.in_check.result c.has_legal_move.result c.if-not-in_check.true c.in_check.ensures.computed c.has_legal_move.ensures.computed
