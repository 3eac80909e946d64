use Rattle.table_folder.specs.Settled.{IsRefusedFor, IsWithMoves}
use Rattle.http_answer.specs.Replies.{IsPlayedOn}
use Rattle.http_answer.proofs.AnswerLaws.{seen_by}
use Rattle.http_answer.specs.Files.{files_of}
use Rattle.http_answer.proofs.OpenReadLaws.{named_for, opens_reads}
use Rattle.http_answer.proofs.answerer.Answerer.best_move.Goals as goal

pub returns-in-Err-clause-refused : goal.returns-in-Err-clause-refused
returns-in-Err-clause-refused g c =
    let refused = rw c.in-Err.is at c.in_ok-refusal.ensures.refused in
    seen_by (files_of g.S.System.outside) _ _ (λ disk folder. IsRefusedFor disk folder (IsWithMoves c.args.position.now) c.in-Err.refusal) c.self.view_is refused

pub returns-clause-answer : goal.returns-clause-answer
returns-clause-answer g c =
    let settled = rw c.in_default.is at c.in_ok-refusal.ensures.settled in
    seen_by (files_of g.S.System.outside) _ _ (λ disk folder. IsPlayedOn disk folder c.args.position.now c.in_ok-best.best) c.self.view_is
    (record { tables = c.settle_moves.new.set.tables; opened = c.in_ok-refusal.ensures.opened; settled = settled; answers = c.in_ok-best.ensures.told })

pub returns-in_err-refusal-clause-made : goal.returns-in_err-refusal-clause-made
returns-in_err-refusal-clause-made g c = opens_reads g.S.System.outside _ _ _ _ _ _ _ c.self.view_is (named_for c.settle_moves.result _ _ _ c.settle_moves.ensures.refused) c.settle_moves.ensures.made

pub returns-in-Err-clause-made : goal.returns-in-Err-clause-made
returns-in-Err-clause-made g c = opens_reads g.S.System.outside _ _ _ _ _ _ _ c.self.view_is (named_for c.settle_moves.result _ _ _ c.settle_moves.ensures.refused) c.settle_moves.ensures.made

pub returns-in_err-best-clause-made : goal.returns-in_err-best-clause-made
returns-in_err-best-clause-made g c = opens_reads g.S.System.outside _ _ _ _ _ _ _ c.self.view_is (named_for c.settle_moves.result _ _ _ c.settle_moves.ensures.refused) c.settle_moves.ensures.made

pub returns-clause-made : goal.returns-clause-made
returns-clause-made g c = opens_reads g.S.System.outside _ _ _ _ _ _ _ c.self.view_is (named_for c.settle_moves.result _ _ _ c.settle_moves.ensures.refused) c.settle_moves.ensures.made
