use Rattle.std.proofs.Common.{◌∙◌, ◌∷◌, [], subst}
use Rattle.std.specs.Prelude.{codes}
use Rattle.std.proofs.lemmas.Result.{on_ok_weaker}
use Rattle.http_server.specs.Response.{IsResponse}
use Rattle.http_answer.specs.Places.{any_origin, typed}
use Rattle.http_answer.proofs.answerer.Answerer.answer_lines.Goals as goal

pub returns-clause-answer : goal.returns-clause-answer
returns-clause-answer g c =
    let objects = c.in_ok-objects.ensures.answer in
    on_ok_weaker c.fill_objects.result (λ has. (objects.0, objects.1, subst (λ text. IsResponse 200 (typed (codes "application/x-ndjson") ∷ any_origin ∷ []) text c.fill_objects.new.response) (c.deref.ensures.value ∙ objects.2) has)) c.fill_objects.ensures
