use Rattle.std.proofs.lemmas.Result.{on_ok_weaker}
use Rattle.json_lines.proofs.Pieces.{string_is}
use Rattle.json_lines.proofs.text.put_string.Goals as goal

pub returns : goal.returns
returns g c = on_ok_weaker c.put-2.result (λ h. string_is c.args.front.now c.args.rest.now _ _ _ _ c.in_ok-put.ensures c.in_ok-put_parts.ensures h) c.put-2.ensures
