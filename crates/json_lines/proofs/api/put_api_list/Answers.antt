use Rattle.std.proofs.lemmas.Result.{on_ok_weaker}
use Rattle.json_lines.specs.Api.{api_move_json}
use Rattle.json_lines.specs.Objects.{moves_items}
use Rattle.json_lines.proofs.Whole.{list_written}
use Rattle.json_lines.proofs.api.put_api_list.Goals as goal

pub returns : goal.returns
returns g c = on_ok_weaker c.put_end_list.result (λ h. list_written (moves_items (api_move_json c.args.form) c.args.moves.now) _ _ _ _ c.in_ok-put_begin_list.ensures c.in_ok-put_api_moves.ensures h) c.put_end_list.ensures
