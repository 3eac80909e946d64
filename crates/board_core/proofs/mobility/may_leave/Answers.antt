use Rattle.std.proofs.Common.{refl}
use Rattle.board_core.proofs.mobility.may_leave.Goals as goal

pub may_go_within-requires-clause-whole : goal.may_go_within-requires-clause-whole
may_go_within-requires-clause-whole c = λ to q. c.targets.ensures _ q.1 refl
