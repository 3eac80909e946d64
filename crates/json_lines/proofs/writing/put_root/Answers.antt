use Rattle.std.proofs.lemmas.Result.{on_ok_weaker}
use Rattle.std.specs.Prelude.{codes}
use Rattle.std.proofs.Common.{false, true}
use Rattle.json.specs.Json.{array}
use Rattle.json_lines.specs.Objects.{followed_by, move_json, moves_items, moves_members, position_members}
use Rattle.json_lines.proofs.Whole.{followed_written, object_written, one_open}
use Rattle.json_lines.proofs.writing.put_root.Goals as goal

pub returns : goal.returns
returns g c =
    let t = c.args.told.now in
    let ms = position_members t.position t.columns.probed t.columns.verdict in
    let others = moves_members move_json c.args.moves.now in
    let more = one_open true (codes "moves") (array (moves_items move_json c.args.moves.now)) _ _ c.in_ok-put_moves_member.ensures in
    on_ok_weaker c.put_end.result (λ h. object_written false (followed_by ms others) _ _ _ tt (followed_written false ms others _ _ _ tt c.in_ok-put_position.ensures more) h) c.put_end.ensures
