use Rattle.board_core.proofs.ComputedMoves.{position_legal, legal_position}
use Rattle.board_core.proofs.laws.position_after_is_computed.Goals as goal

pub returns : goal.returns
returns c = λ p m q. (position_legal p m q, legal_position p m q)
