use Rattle.board_core.proofs.SoleKing.{king_of_position}
use Rattle.board_core.proofs.position.is_opponent_safe.Goals as goal

pub is_in_check-requires-clause-one : goal.is_in_check-requires-clause-one
is_in_check-requires-clause-one c = king_of_position c.args.p.now _ c.requires.kings
