use Rattle.std.specs.Prelude.{codes}
use Rattle.std.proofs.lemmas.Result.{on_ok_weaker}
use Rattle.json.specs.Json.{string}
use Rattle.json_lines.specs.Objects.{error_members, followed_by, standing_members, value_members}
use Rattle.json_lines.proofs.Whole.{around_written}
use Rattle.json_lines.proofs.writing.put_after.Goals as goal

pub returns : goal.returns
returns g c =
    on_ok_weaker c.put_standing.result
    (λ h. around_written (value_members c.args.told.now) (codes "san") (string c.args.told.now.san.bytes) (followed_by (standing_members c.args.told.now) (error_members c.args.told.now.probed)) _ _ _ _ tt c.in_ok-put_values.ensures c.in_ok-put_san.ensures h)
    c.put_standing.ensures
