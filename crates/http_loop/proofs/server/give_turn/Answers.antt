use Rattle.std.proofs.Common.{◌++◌, ap, refl, ◌∙◌}
use Rattle.http_loop.specs.Turns.{may_go_on}
use Rattle.http_loop.proofs.TimeLaws.{from_same}
use Rattle.http_loop.proofs.TurnLaws.{after_gone, after_wait, grows_none, others_after}
use Rattle.http_loop.proofs.server.give_turn.Goals as goal

pub returns-in-GoesOn-clause-served : goal.returns-in-GoesOn-clause-served
returns-in-GoesOn-clause-served g c = λ config.
    let turn = c.take_turn_of.ensures.served config in
    (turn.0, turn.1, λ calls before h. c.queue_up.ensures.served config (calls ++ turn.0) before (turn.2 calls before h))

pub returns-in-Ends-clause-served : goal.returns-in-Ends-clause-served
returns-in-Ends-clause-served g c = λ config.
    let turn = c.take_turn_of.ensures.served config in
    (turn.0, turn.1, λ calls before h. c.close_one.ensures.served config (calls ++ turn.0) before (turn.2 calls before h))

pub returns-in-Waits-clause-lingering : goal.returns-in-Waits-clause-lingering
returns-in-Waits-clause-lingering g c = from_same c.args.now (g.L.Listener.lingering c.args.listener.now) _ refl

pub returns-in-Waits-clause-queued : goal.returns-in-Waits-clause-queued
returns-in-Waits-clause-queued g c = λ h.
    after_wait _ _ _ c.args.key _ c.take_turn_of.ensures.others c.take_turn_of.ensures.goes_on c.take_turn_of.ensures.rests c.in-Waits.is h

pub returns-in-Waits-clause-behind : goal.returns-in-Waits-clause-behind
returns-in-Waits-clause-behind g c = grows_none _ _ refl

pub returns-in-GoesOn-clause-queued : goal.returns-in-GoesOn-clause-queued
returns-in-GoesOn-clause-queued g c = λ h.
    c.queue_up.ensures.queued (others_after _ _ _ c.args.key _ c.take_turn_of.ensures.others h) (c.take_turn_of.ensures.goes_on ∙ ap may_go_on c.in-GoesOn.is)

pub returns-in-Ends-clause-queued : goal.returns-in-Ends-clause-queued
returns-in-Ends-clause-queued g c = λ h.
    after_gone _ _ _ c.args.key c.close_one.ensures.gone (others_after _ _ _ c.args.key _ c.take_turn_of.ensures.others h)

pub returns-in-Ends-clause-behind : goal.returns-in-Ends-clause-behind
returns-in-Ends-clause-behind g c = grows_none _ _ refl
