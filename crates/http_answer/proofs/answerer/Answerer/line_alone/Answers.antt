use Rattle.std.proofs.Common.{subst, sym}
use Rattle.std.proofs.lemmas.Result.{IfOk-weaker}
use Rattle.http_answer.specs.Games.{ByRefusal, ByTables}
use Rattle.table_folder.specs.Settled.{IsSettled}
use Rattle.http_answer.proofs.SeenLaws.{alone_so}
use Rattle.http_answer.specs.Files.{files_of}
use Rattle.http_answer.proofs.OpenReadLaws.{named_at, opens_reads}
use Rattle.http_answer.proofs.answerer.Answerer.line_alone.Goals as goal

pub returns-in-Err-clause-answer : goal.returns-in-Err-clause-answer
returns-in-Err-clause-answer g c =
    let refused = rw c.in-Err.is at c.in_ok-refusal.ensures.refused in
    alone_so (files_of g.S.System.outside) _ _ _ _ c.self.view_is (ByRefusal c.in-Err.refusal refused c.refused_words.ensures)

pub returns-clause-answer : goal.returns-clause-answer
returns-clause-answer g c =
    let settled = rw c.in_default.is at c.in_ok-refusal.ensures.settled in
    IfOk-weaker c.of_position.result _ _ (λ l is. alone_so (files_of g.S.System.outside) _ _ _ l c.self.view_is (ByTables (record { tables = c.settle.new.set.tables; opened = c.in_ok-refusal.ensures.opened; settled = λ q same. subst (IsSettled c.self.inside.folder.folder c.settle.new.set.tables) (sym same) settled; answers = is }))) c.of_position.ensures.told

pub returns-in_err-refusal-clause-made : goal.returns-in_err-refusal-clause-made
returns-in_err-refusal-clause-made g c = opens_reads g.S.System.outside _ _ _ _ _ _ _ c.self.view_is (named_at c.settle.result _ _ _ c.settle.ensures.refused) c.settle.ensures.made

pub returns-in-Err-clause-made : goal.returns-in-Err-clause-made
returns-in-Err-clause-made g c = opens_reads g.S.System.outside _ _ _ _ _ _ _ c.self.view_is (named_at c.settle.result _ _ _ c.settle.ensures.refused) c.settle.ensures.made

pub returns-clause-made : goal.returns-clause-made
returns-clause-made g c = opens_reads g.S.System.outside _ _ _ _ _ _ _ c.self.view_is (named_at c.settle.result _ _ _ c.settle.ensures.refused) c.settle.ensures.made
