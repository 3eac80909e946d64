use Rattle.board_core.proofs.SoleKing.{one_king}
use Rattle.board_core.proofs.position.Position.in_check.Goals as goal

pub is_in_check-requires-clause-one : goal.is_in_check-requires-clause-one
is_in_check-requires-clause-one c = one_king c.self.inside.parts c.self.inside.parts.side c.self.invariant.0
