use Rattle.board_core.proofs.NextCapture.{next_goes_on, next_later, next_below, next_ends}
use Rattle.board_core.proofs.position.Position.next_capture.Goals as goal

pub returns-clause-next : goal.returns-clause-next
returns-clause-next c = next_goes_on c.args.self.now c.args.last c.next_capture.result (rw c.self.view_is at c.next_capture.ensures.next)

pub returns-clause-later : goal.returns-clause-later
returns-clause-later c = next_later c.args.self.now c.args.last c.next_capture.result (rw c.self.view_is at c.next_capture.ensures.next)

pub returns-clause-below : goal.returns-clause-below
returns-clause-below c = next_below _ _ c.next_capture.result c.next_capture.ensures.next

pub returns-clause-none : goal.returns-clause-none
returns-clause-none c = next_ends c.args.self.now c.args.last c.next_capture.result (rw c.self.view_is at c.next_capture.ensures.none)
