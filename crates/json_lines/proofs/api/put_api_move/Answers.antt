use Rattle.std.proofs.lemmas.Result.{on_ok_weaker}
use Rattle.json_lines.specs.Api.{api_move_members}
use Rattle.json_lines.proofs.Whole.{object_written, opened_written}
use Rattle.json_lines.proofs.api.put_api_move.Goals as goal

pub returns : goal.returns
returns g c =
    let ms = api_move_members c.args.form c.args.played.now in
    on_ok_weaker c.put_end.result (λ h. object_written c.args.later ms _ _ _ tt (opened_written c.args.later ms _ _ _ c.in_ok-put_begin.ensures c.in_ok-put_api_after.ensures) h) c.put_end.ensures
