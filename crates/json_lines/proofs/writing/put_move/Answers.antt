use Rattle.std.proofs.lemmas.Result.{on_ok_weaker}
use Rattle.json_lines.specs.Objects.{move_members}
use Rattle.json_lines.proofs.Whole.{object_written}
use Rattle.json_lines.proofs.writing.put_move.Goals as goal

pub returns-in-Ok : goal.returns-in-Ok
returns-in-Ok g c = on_ok_weaker c.put_end.result (λ h. object_written c.args.later (move_members c.args.told.now) _ _ _ tt c.in-Ok.ensures h) c.put_end.ensures
