use Rattle.std.proofs.lemmas.Result.{on_ok_weaker}
use Rattle.http_answer.proofs.answerer.Answerer.reply.Goals as goal

pub returns-in_ok-line_for-in-Values-clause-replied : goal.returns-in_ok-line_for-in-Values-clause-replied
returns-in_ok-line_for-in-Values-clause-replied g c =
    let got = c.in_ok-line_for-in-Values in
    rw c.in-Values.is (on_ok_weaker c.fill_line.result (λ has. (got.field-0, rw c.deref.ensures.value at got.ensures.answer, has)) c.fill_line.ensures)

pub returns-in_ok-mainline_for-in-Mainline-clause-replied : goal.returns-in_ok-mainline_for-in-Mainline-clause-replied
returns-in_ok-mainline_for-in-Mainline-clause-replied g c =
    let got = c.in_ok-mainline_for-in-Mainline in
    rw c.in-Mainline.is (on_ok_weaker c.fill_line-in-Mainline.result (λ has. (got.field-0, rw c.deref-in-Mainline.ensures.value at got.ensures.answer, has)) c.fill_line-in-Mainline.ensures)

pub returns-in_ok-line_for-in-Values-clause-made : goal.returns-in_ok-line_for-in-Values-clause-made
returns-in_ok-line_for-in-Values-clause-made g c = rw c.in-Values.is (rw c.deref.ensures.value at c.line_for.ensures.made)

pub returns-in_err-line_for-in-Values-clause-made : goal.returns-in_err-line_for-in-Values-clause-made
returns-in_err-line_for-in-Values-clause-made g c = rw c.in-Values.is (rw c.deref.ensures.value at c.line_for.ensures.made)

pub returns-in_ok-mainline_for-in-Mainline-clause-made : goal.returns-in_ok-mainline_for-in-Mainline-clause-made
returns-in_ok-mainline_for-in-Mainline-clause-made g c = rw c.in-Mainline.is (rw c.deref-in-Mainline.ensures.value at c.mainline_for.ensures.made)

pub returns-in_err-mainline_for-in-Mainline-clause-made : goal.returns-in_err-mainline_for-in-Mainline-clause-made
returns-in_err-mainline_for-in-Mainline-clause-made g c = rw c.in-Mainline.is (rw c.deref-in-Mainline.ensures.value at c.mainline_for.ensures.made)

pub returns-in-Lines-clause-made : goal.returns-in-Lines-clause-made
returns-in-Lines-clause-made g c = rw c.in-Lines.is c.answer_lines.ensures.made
