use Rattle.table_folder.specs.Settled.{IsRefusedAt, IsSettled}
use Rattle.std.proofs.Common.{subst, sym}
use Rattle.http_answer.specs.Replies.{IsPositionBy}
use Rattle.http_answer.proofs.AnswerLaws.{seen_by}
use Rattle.http_answer.specs.Files.{files_of}
use Rattle.http_answer.proofs.OpenReadLaws.{named_at, opens_reads}
use Rattle.http_answer.proofs.answerer.Answerer.position_by.Goals as goal

pub returns-in-Err-clause-refused : goal.returns-in-Err-clause-refused
returns-in-Err-clause-refused g c =
    let refused = rw c.in-Err.is at c.in_ok-refusal.ensures.refused in
    seen_by (files_of g.S.System.outside) _ _ (λ disk folder. IsRefusedAt disk folder c.args.position.now c.in-Err.refusal) c.self.view_is refused

pub returns-clause-answer : goal.returns-clause-answer
returns-clause-answer g c =
    let settled = rw c.in_default.is at c.in_ok-refusal.ensures.settled in
    seen_by (files_of g.S.System.outside) _ _ (λ disk folder. IsPositionBy disk folder c.args.position.now c.in_ok-known.known) c.self.view_is
    (record { tables = c.settle_one.new.set.tables; opened = c.in_ok-refusal.ensures.opened; settled = λ p here. subst (IsSettled c.self.inside.folder.folder c.settle_one.new.set.tables) (sym here) settled; answers = c.in_ok-known.ensures.told })

pub returns-in_err-refusal-clause-made : goal.returns-in_err-refusal-clause-made
returns-in_err-refusal-clause-made g c = opens_reads g.S.System.outside _ _ _ _ _ _ _ c.self.view_is (named_at c.settle_one.result _ _ _ c.settle_one.ensures.refused) c.settle_one.ensures.made

pub returns-in-Err-clause-made : goal.returns-in-Err-clause-made
returns-in-Err-clause-made g c = opens_reads g.S.System.outside _ _ _ _ _ _ _ c.self.view_is (named_at c.settle_one.result _ _ _ c.settle_one.ensures.refused) c.settle_one.ensures.made

pub returns-in_err-known-clause-made : goal.returns-in_err-known-clause-made
returns-in_err-known-clause-made g c = opens_reads g.S.System.outside _ _ _ _ _ _ _ c.self.view_is (named_at c.settle_one.result _ _ _ c.settle_one.ensures.refused) c.settle_one.ensures.made

pub returns-clause-made : goal.returns-clause-made
returns-clause-made g c = opens_reads g.S.System.outside _ _ _ _ _ _ _ c.self.view_is (named_at c.settle_one.result _ _ _ c.settle_one.ensures.refused) c.settle_one.ensures.made
