use Rattle.std.proofs.Common.{false}
use Rattle.std.proofs.lemmas.Result.{on_ok_weaker}
use Rattle.json.specs.Token.{begin_array}
use Rattle.json_lines.proofs.Pieces.{writes_one}
use Rattle.json_lines.proofs.writing.put_begin_list.Goals as goal

pub returns : goal.returns
returns g c = on_ok_weaker c.put.result (λ h. writes_one false begin_array _ _ tt h) c.put.ensures
