use Rattle.std.specs.Prelude.{IfErr}
use Rattle.http_answer.specs.Replies.{IsPositionBy, IsRefusedLineOf, OfLine, OfPosition, winner_at}
use Rattle.http_answer.proofs.AnswerLaws.{seen_by}
use Rattle.http_answer.proofs.OpenReadLaws.{reads_then}
use Rattle.http_answer.specs.Files.{files_of}
use Rattle.http_answer.proofs.answerer.Answerer.mainline_of.Goals as goal

pub returns-in-Err-clause-answer : goal.returns-in-Err-clause-answer
returns-in-Err-clause-answer g c = OfPosition c.in-Err.refusal (rw c.in-Err.is at c.in_ok-known.ensures.refused) c.refusal_of.ensures

pub returns-in-Err-2-clause-answer : goal.returns-in-Err-2-clause-answer
returns-in-Err-2-clause-answer g c =
    let known = rw c.in-Ok.is at c.in_ok-known.ensures.answer in
    let refused = seen_by (files_of g.S.System.outside) _ _ (λ disk folder. IfErr c.in_ok-plies.field-0 (IsRefusedLineOf disk folder c.winner.result c.args.position.now)) c.position_by.ensures.same c.in_ok-plies.ensures.refused in
    OfLine c.in-Ok.known known c.in-Err-2.refusal (rw c.winner.ensures at (rw c.in-Err-2.is at refused)) c.refusal_of-in-Err-2.ensures

pub returns-in-Ok-2-clause-made : goal.returns-in-Ok-2-clause-made
returns-in-Ok-2-clause-made g c = reads_then g.S.System.outside _ _ _ _ _ c.position_by.ensures.same c.position_by.ensures.made c.line_of_play.ensures.made

pub returns-in-Err-2-clause-made : goal.returns-in-Err-2-clause-made
returns-in-Err-2-clause-made g c = reads_then g.S.System.outside _ _ _ _ _ c.position_by.ensures.same c.position_by.ensures.made c.line_of_play.ensures.made

pub returns-in_err-plies-clause-made : goal.returns-in_err-plies-clause-made
returns-in_err-plies-clause-made g c = reads_then g.S.System.outside _ _ _ _ _ c.position_by.ensures.same c.position_by.ensures.made c.line_of_play.ensures.made
