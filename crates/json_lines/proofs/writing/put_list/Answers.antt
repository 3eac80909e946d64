use Rattle.std.proofs.lemmas.Result.{on_ok_weaker}
use Rattle.json_lines.specs.Objects.{move_json, moves_items}
use Rattle.json_lines.proofs.Whole.{list_written}
use Rattle.json_lines.proofs.writing.put_list.Goals as goal

pub returns : goal.returns
returns g c = on_ok_weaker c.put_end_list.result (λ h. list_written (moves_items move_json c.args.moves.now) _ _ _ _ c.in_ok-put_begin_list.ensures c.in_ok-put_moves.ensures h) c.put_end_list.ensures
