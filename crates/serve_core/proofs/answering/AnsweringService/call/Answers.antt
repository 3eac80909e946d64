use Rattle.std.proofs.Common.{refl}
use Rattle.serve_core.proofs.CallLaws.{call_added}
use Rattle.serve_core.proofs.SeenLaws.{answers_seen, grounded_on}
use Rattle.serve_core.proofs.answering.AnsweringService.call.Goals as goal

pub returns-clause-ok : goal.returns-clause-ok
returns-clause-ok g c =
    answers_seen g.S.System.outside g.C.Times.says _ _ _ _ _ c.self.view_is c.answer.ensures.answered refl
    (call_added g.S.System.outside g.C.Times.says _ _ _ _ _ _ _ _ c.args.request.now c.answer.new.response c.self.invariant.same c.answer.ensures.made c.note_request.ensures)

pub invariant_of-self : goal.invariant_of-self
invariant_of-self g c = grounded_on g.S.System.outside g.C.Times.says _ _ _ _ _ _ _ c.self.invariant c.answer.ensures.answered
