use Rattle.std.proofs.lemmas.Result.{IfOk-weaker}
use Rattle.http_answer.specs.Replies.{ByRefusal, ByTables}
use Rattle.http_answer.proofs.AnswerLaws.{seen_so}
use Rattle.http_answer.specs.Files.{files_of}
use Rattle.http_answer.proofs.OpenReadLaws.{named_for, opens_reads}
use Rattle.http_answer.proofs.answerer.Answerer.line_of.Goals as goal

pub returns-in-Err-clause-answer : goal.returns-in-Err-clause-answer
returns-in-Err-clause-answer g c =
    let refused = rw c.in-Err.is at c.in_ok-refusal.ensures.refused in
    seen_so (files_of g.S.System.outside) _ _ _ _ c.self.view_is (ByRefusal c.in-Err.refusal refused c.refusal_of.ensures)

pub returns-clause-answer : goal.returns-clause-answer
returns-clause-answer g c =
    let settled = rw c.in_default.is at c.in_ok-refusal.ensures.settled in
    IfOk-weaker c.of_position.result _ _ (λ l is. seen_so (files_of g.S.System.outside) _ _ _ l c.self.view_is (ByTables (record { tables = c.settle_moves.new.set.tables; opened = c.in_ok-refusal.ensures.opened; settled = settled; answers = is }))) c.of_position.ensures.told

pub returns-in_err-refusal-clause-made : goal.returns-in_err-refusal-clause-made
returns-in_err-refusal-clause-made g c = opens_reads g.S.System.outside _ _ _ _ _ _ _ c.self.view_is (named_for c.settle_moves.result _ _ _ c.settle_moves.ensures.refused) c.settle_moves.ensures.made

pub returns-in-Err-clause-made : goal.returns-in-Err-clause-made
returns-in-Err-clause-made g c = opens_reads g.S.System.outside _ _ _ _ _ _ _ c.self.view_is (named_for c.settle_moves.result _ _ _ c.settle_moves.ensures.refused) c.settle_moves.ensures.made

pub returns-clause-made : goal.returns-clause-made
returns-clause-made g c = opens_reads g.S.System.outside _ _ _ _ _ _ _ c.self.view_is (named_for c.settle_moves.result _ _ _ c.settle_moves.ensures.refused) c.settle_moves.ensures.made
