use Rattle.std.proofs.Common.{refl, sym, ◌∙◌}
use Rattle.http_loop.proofs.ServingLaws.{on_nothing}
use Rattle.http_loop.proofs.TimeLaws.{from_same}
use Rattle.http_loop.proofs.TurnLaws.{as_others, grows_none}
use Rattle.http_loop.proofs.server.give_ready_turn.Goals as goal

pub returns-then-goes_on-clause-served : goal.returns-then-goes_on-clause-served
returns-then-goes_on-clause-served g c = λ config. on_nothing _ _ g.S.Service.answers config _ _ _

pub returns-then-goes_on-clause-lingering : goal.returns-then-goes_on-clause-lingering
returns-then-goes_on-clause-lingering g c = from_same c.args.now (g.L.Listener.lingering c.args.listener.now) _ refl

pub returns-then-goes_on-clause-behind : goal.returns-then-goes_on-clause-behind
returns-then-goes_on-clause-behind g c = grows_none _ _ refl

pub returns-clause-queued : goal.returns-clause-queued
returns-clause-queued g c = λ h. c.give_turn.ensures.queued (as_others _ _ c.args.key (sym c.goes_on.ensures ∙ c.if-goes_on.false) h)
