use Rattle.std.proofs.Common.{true, false}
use Rattle.std.proofs.lemmas.Result.{on_ok_weaker}
use Rattle.json.specs.Token.{Token}
use Rattle.json_lines.proofs.Pieces.{writes_one}
use Rattle.json_lines.proofs.members.put_boolean.Goals as goal

pub returns-then-value : goal.returns-then-value
returns-then-value g c = rw c.if-value.true (on_ok_weaker c.put.result (λ h. writes_one false (Token.boolean true) _ _ tt h) c.put.ensures)

pub returns-else-value : goal.returns-else-value
returns-else-value g c = rw c.if-value.false (on_ok_weaker c.put-else-value.result (λ h. writes_one false (Token.boolean false) _ _ tt h) c.put-else-value.ensures)
