use Rattle.board_core.proofs.SetBits.{both_sides}
use Rattle.board_core.proofs.position.Position.occupied.Goals as goal

pub returns : goal.returns
returns c = rw (c.bitor.ensures, c.self.invariant.1, c.self.view_is) (both_sides c.args.self.now.men)
