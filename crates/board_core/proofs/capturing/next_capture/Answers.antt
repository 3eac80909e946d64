use Rattle.board_core.proofs.capturing.next_capture.Goals as goal

pub returns-clause-next : goal.returns-clause-next
returns-clause-next c = rw c.start_of.ensures at c.first_capture.ensures.found

pub returns-clause-none : goal.returns-clause-none
returns-clause-none c = rw c.start_of.ensures at c.first_capture.ensures.none
