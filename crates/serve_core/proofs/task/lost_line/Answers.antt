use Rattle.std.proofs.lemmas.Result.{IfOk-weaker}
use Rattle.serve_core.proofs.task.lost_line.Goals as goal

pub returns-in-Ok : goal.returns-in-Ok
returns-in-Ok c = IfOk-weaker c.line_why.result _ _ (λ line is. (c.as_str.result.now, is)) c.line_why.ensures
