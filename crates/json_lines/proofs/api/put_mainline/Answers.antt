use Rattle.std.proofs.lemmas.Result.{on_ok_weaker}
use Rattle.std.proofs.Common.{false, true}
use Rattle.json.specs.Json.{array}
use Rattle.json_lines.specs.declared.api.MoveForm.TheVariants.{Ply}
use Rattle.json_lines.specs.Api.{api_move_json, list_members, list_name, mainline_members}
use Rattle.json_lines.specs.Objects.{followed_by, moves_items}
use Rattle.json_lines.proofs.Whole.{followed_written, object_written, one_open}
use Rattle.json_lines.proofs.api.put_mainline.Goals as goal

pub returns : goal.returns
returns g c =
    let ms = mainline_members c.args.position.now in
    let others = list_members Ply c.args.plies.now in
    let more = one_open true (list_name Ply) (array (moves_items (api_move_json Ply) c.args.plies.now)) _ _ c.in_ok-put_list_member.ensures in
    on_ok_weaker c.put_end.result (λ h. object_written false (followed_by ms others) _ _ _ tt (followed_written false ms others _ _ _ tt c.in_ok-put_line_facts.ensures more) h) c.put_end.ensures
