use Rattle.std.proofs.Common.{None}
use Rattle.board_core.proofs.NextCapture.{captures_end}
use Rattle.board_core.proofs.position.Position.may_capture.Goals as goal

pub returns : goal.returns
returns c = λ no. captures_end c.args.self.now None (λ m w. rw c.self.view_is at c.may_capture.ensures no m w.0)
