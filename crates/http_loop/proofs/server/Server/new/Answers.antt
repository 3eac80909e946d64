use Rattle.std.proofs.Common.{[], ap, arith, get_or, None}
use Rattle.http_loop.proofs.ServingLaws.{none_served}
use Rattle.http_loop.proofs.TimeLaws.{none_lingers}
use Rattle.http_loop.proofs.TurnLaws.{none_queued}
use Rattle.http_loop.proofs.server.Server.new.Goals as goal

pub returns-clause-served : goal.returns-clause-served
returns-clause-served g c = λ none. none_served _ _ c.args.limits.config [] (g.L.Listener.streams c.args.listener) _ c.new.ensures.empty none

pub returns-clause-order : goal.returns-clause-order
returns-clause-order g c = λ none. record {
  queued = rw c.new-2.ensures.items (none_queued _ (λ key. ap (λ slots. get_or slots key None) c.new.ensures.empty));
  swept = omega arith;
  in_time = none_lingers _ _ none;
}
