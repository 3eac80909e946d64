use Rattle.board_core.proofs.ComputedMoves.{position_legal}
use Rattle.board_core.proofs.Preserved.{IsPosition-play}
use Rattle.board_core.proofs.laws.position_after_is_a_position.Goals as goal

pub returns : goal.returns
returns c = λ p m q i e. IsPosition-play p m q i (position_legal p m q e)
