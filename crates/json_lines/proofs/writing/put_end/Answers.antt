use Rattle.std.proofs.Common.{true}
use Rattle.std.proofs.lemmas.Result.{on_ok_weaker}
use Rattle.json.specs.Token.{end_object}
use Rattle.json_lines.proofs.Pieces.{writes_one}
use Rattle.json_lines.proofs.writing.put_end.Goals as goal

pub returns : goal.returns
returns g c = on_ok_weaker c.put.result (λ h. writes_one true end_object _ _ tt h) c.put.ensures
