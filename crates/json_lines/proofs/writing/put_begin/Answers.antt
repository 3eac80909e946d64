use Rattle.std.proofs.lemmas.Result.{on_ok_weaker}
use Rattle.json_lines.proofs.Whole.{begin_written}
use Rattle.json_lines.proofs.writing.put_begin.Goals as goal

pub returns-in-Ok : goal.returns-in-Ok
returns-in-Ok g c = on_ok_weaker c.put.result (λ h. begin_written c.args.later _ _ _ c.in-Ok.ensures h) c.put.ensures
