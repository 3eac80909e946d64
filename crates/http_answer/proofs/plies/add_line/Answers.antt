use Rattle.std.proofs.Common.{◌∙◌, ◌++◌, ap, sym}
use Rattle.std.proofs.lemmas.Result.{on_ok_weaker}
use Rattle.json.specs.Tree.{json_tokens}
use Rattle.http_answer.proofs.PlyLaws.{one_value}
use Rattle.http_answer.proofs.plies.add_line.Goals as goal

pub returns-in-Ok : goal.returns-in-Ok
returns-in-Ok c =
    let same = one_value _ _ _ (rw c.deref.ensures.value at c.in-Ok.ensures.ok.1) c.in_ok-object.ensures in
    on_ok_weaker c.value.result (λ h. record { before = c.value.ensures.before; tokens = h ∙ ap (λ j. c.args.text.now.tokens ++ json_tokens j) same }) c.value.ensures.ok
