use Rattle.std.proofs.lemmas.Result.{IfOk-weaker}
use Rattle.table_commands.proofs.root.told_as_json.Goals as goal

pub returns-in-Ok : goal.returns-in-Ok
returns-in-Ok c = IfOk-weaker c.answer_as_json.result _ _ (λ a is. (c.in-Ok.line, c.in-Ok.ensures.told, is)) c.answer_as_json.ensures
