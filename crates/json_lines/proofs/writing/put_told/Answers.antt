use Rattle.std.proofs.lemmas.Result.{on_ok_weaker}
use Rattle.json_lines.specs.Objects.{error_members}
use Rattle.json_lines.proofs.Whole.{told_written}
use Rattle.json_lines.proofs.writing.put_told.Goals as goal

pub returns-in-Ok : goal.returns-in-Ok
returns-in-Ok g c = on_ok_weaker c.put_error.result (λ h. told_written c.args.later c.args.members.now (error_members c.args.probed.now) _ _ _ c.requires c.in-Ok.ensures h) c.put_error.ensures
