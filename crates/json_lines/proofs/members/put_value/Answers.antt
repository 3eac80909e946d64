use Rattle.std.proofs.Common.{false}
use Rattle.std.proofs.lemmas.Result.{on_ok_weaker}
use Rattle.json.specs.Token.{Token}
use Rattle.json_lines.proofs.Pieces.{writes_one}
use Rattle.json_lines.proofs.members.put_value.Goals as goal

pub returns-in-Null : goal.returns-in-Null
returns-in-Null g c = rw c.in-Null.is (on_ok_weaker c.put.result (λ h. writes_one false Token.null _ _ tt h) c.put.ensures)

pub returns-in-Boolean : goal.returns-in-Boolean
returns-in-Boolean g c = rw c.in-Boolean.is c.put_boolean.ensures

pub returns-in-Text : goal.returns-in-Text
returns-in-Text g c = rw c.in-Text.is (on_ok_weaker c.put_text.result (λ h. writes_one false (Token.string c.in-Text.text.now) _ _ tt h) c.put_text.ensures)

pub returns-in-Words : goal.returns-in-Words
returns-in-Words g c = rw c.in-Words.is (on_ok_weaker c.put_string.result (λ h. writes_one false (Token.string _) _ _ tt h) c.put_string.ensures)
