use Rattle.std.proofs.Common.{refl}
use Rattle.board_core.proofs.playing.carry.Goals as goal

pub returns : goal.returns
returns c = rw (c.put-2.ensures, c.put.ensures) refl
