use Rattle.std.proofs.Common.{refl, subst}
use Rattle.http_loop.specs.Turns.{AreQueued}
use Rattle.http_loop.proofs.ServingLaws.{on_nothing}
use Rattle.http_loop.proofs.TimeLaws.{from_same}
use Rattle.http_loop.proofs.TurnLaws.{popped}
use Rattle.http_loop.proofs.server.give_next.Goals as goal

pub returns-in_default-clause-served : goal.returns-in_default-clause-served
returns-in_default-clause-served g c = λ config. on_nothing _ _ g.S.Service.answers config _ _ _

pub returns-in_default-clause-lingering : goal.returns-in_default-clause-lingering
returns-in_default-clause-lingering g c = from_same c.args.now (g.L.Listener.lingering c.args.listener.now) _ refl

pub returns-in-Some-clause-queued : goal.returns-in-Some-clause-queued
returns-in-Some-clause-queued g c = λ h. c.give_turn.ensures.queued (popped _ _ c.in-Some.key (subst (AreQueued c.args.peers.now) c.in-Some.ensures.items h))
