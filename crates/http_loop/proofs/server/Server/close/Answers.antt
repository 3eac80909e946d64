use Rattle.http_loop.proofs.TimeLaws.{still_in_time}
use Rattle.http_loop.proofs.TurnLaws.{none_queued}
use Rattle.http_loop.proofs.server.Server.close.Goals as goal

pub returns-clause-order : goal.returns-clause-order
returns-clause-order g c = λ h. record {
  queued = rw c.clear.ensures.items (none_queued _ c.close_each.ensures.gone);
  swept = h.swept;
  in_time = still_in_time _ c.args.self.now.now _ _ h.swept c.close_each.ensures.lingering h.in_time;
}
