use Rattle.std.proofs.Common.{refl}
use Rattle.http_loop.proofs.TimeLaws.{from_same}
use Rattle.http_loop.proofs.TurnLaws.{after_gone, after_push, grows_none}
use Rattle.http_loop.proofs.server.queue_up.Goals as goal

pub returns-in-Ok-clause-lingering : goal.returns-in-Ok-clause-lingering
returns-in-Ok-clause-lingering g c = from_same c.args.now (g.L.Listener.lingering c.args.listener.now) _ refl

pub returns-in-Ok-clause-queued : goal.returns-in-Ok-clause-queued
returns-in-Ok-clause-queued g c = λ h on. rw c.in-Ok.ensures.items (after_push c.args.peers.now _ c.args.key h on)

pub returns-in-Err-clause-queued : goal.returns-in-Err-clause-queued
returns-in-Err-clause-queued g c = λ h on. rw c.in-Err.ensures.items (after_gone _ _ _ c.args.key c.close_one.ensures.gone h)

pub returns-in-Err-clause-behind : goal.returns-in-Err-clause-behind
returns-in-Err-clause-behind g c = grows_none _ _ c.in-Err.ensures.items
