use Rattle.std.proofs.Common.{◌∙◌, ℕ, List, subst}
use Rattle.std.proofs.lemmas.Result.{on_ok_weaker}
use Rattle.http_answer.specs.Replies.{AnswersText}
use Rattle.http_answer.specs.Files.{files_of}
use Rattle.http_answer.proofs.ReadLaws.{text_read}
use Rattle.http_answer.proofs.answerer.Answerer.add_line.Goals as goal

pub returns-clause-answer : goal.returns-clause-answer
returns-clause-answer g c =
    let answer = subst (λ (text : List ℕ). AnswersText ((files_of g.S.System.outside) c.args.self.now.disk) c.args.self.now.folder text c.in_ok-line.line) (c.deref.ensures.value ∙ c.in_ok-text.ensures) c.in_ok-line.ensures.answer in
    on_ok_weaker c.add_object_line.result (λ is. (c.in_ok-line.line, answer, is)) c.add_object_line.ensures

pub returns-in_err-line-clause-made : goal.returns-in_err-line-clause-made
returns-in_err-line-clause-made g c = text_read g.S.System.outside c.args.self.now _ _ _ c.line_for.ensures.made

pub returns-clause-made : goal.returns-clause-made
returns-clause-made g c = text_read g.S.System.outside c.args.self.now _ _ _ c.line_for.ensures.made
