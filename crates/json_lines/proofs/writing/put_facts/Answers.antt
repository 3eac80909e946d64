use Rattle.std.proofs.lemmas.Result.{on_ok_weaker}
use Rattle.std.proofs.Common.{false}
use Rattle.json_lines.specs.Inside.Members.{members_of}
use Rattle.json_lines.specs.Objects.{error_members, followed_by}
use Rattle.json_lines.proofs.Whole.{opened_written}
use Rattle.json_lines.proofs.writing.put_facts.Goals as goal

pub returns-in-Ok : goal.returns-in-Ok
returns-in-Ok g c = on_ok_weaker c.put_told.result (λ h. opened_written false (followed_by (members_of c.args.members.now) (error_members c.args.probed.now)) _ _ _ c.in-Ok.ensures h) c.put_told.ensures
