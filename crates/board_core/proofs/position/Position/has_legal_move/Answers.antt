use Rattle.board_core.proofs.ComputedLists.{some_computed}
use Rattle.board_core.proofs.position.Position.has_legal_move.Goals as goal

pub returns-clause-relation : goal.returns-clause-relation
returns-clause-relation c = let h = rw c.self.view_is at c.has_legal_move.ensures in (λ t. let q = h.0 t in (q.0, q.1), λ a. h.1 (a.0, a.1, tt))

pub returns-clause-computed : goal.returns-clause-computed
returns-clause-computed c = some_computed _ _ (returns-clause-relation c)
