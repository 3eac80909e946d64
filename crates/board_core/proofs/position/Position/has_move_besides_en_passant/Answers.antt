use Rattle.board_core.proofs.ComputedLists.{besides_computed}
use Rattle.board_core.proofs.position.Position.has_move_besides_en_passant.Goals as goal

pub returns-clause-relation : goal.returns-clause-relation
returns-clause-relation c = rw c.self.view_is at c.has_legal_move.ensures

pub returns-clause-computed : goal.returns-clause-computed
returns-clause-computed c = besides_computed _ _ (returns-clause-relation c)
