use Rattle.std.proofs.lemmas.Result.{on_ok_weaker}
use Rattle.json_lines.proofs.Pieces.{writes_key}
use Rattle.json_lines.proofs.members.put_key.Goals as goal

pub returns : goal.returns
returns g c = on_ok_weaker c.put.result (λ h. writes_key c.args.later c.args.name.now _ _ _ _ c.in_ok-put_comma.ensures c.in_ok-put_text.ensures h) c.put.ensures
