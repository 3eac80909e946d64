use Rattle.std.proofs.Common.{arith}
use Rattle.board_core.proofs.Pawns.{has_behind}
use Rattle.board_core.proofs.playing.move_men.Goals as goal

pub behind-passed-requires : goal.behind-passed-requires
behind-passed-requires c = has_behind _ _ _ (omega arith) (rw c.in-EnPassant.is at c.requires.rule).attacks
