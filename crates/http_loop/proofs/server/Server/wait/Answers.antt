use Rattle.http_loop.proofs.TimeLaws.{from_remain, still_in_time}
use Rattle.http_loop.proofs.server.Server.wait.Goals as goal

pub returns-in_err-wait-clause-order : goal.returns-in_err-wait-clause-order
returns-in_err-wait-clause-order g c = λ h. record {
  queued = h.queued;
  swept = h.swept;
  in_time = still_in_time _ c.args.self.now.now _ _ h.swept (from_remain c.args.self.now.now _ _ c.wait.ensures.lingering) h.in_time;
}

pub returns-in_err-take_time-clause-order : goal.returns-in_err-take_time-clause-order
returns-in_err-take_time-clause-order g c = λ h. c.take_time.ensures.order (record {
  queued = h.queued;
  swept = h.swept;
  in_time = still_in_time _ c.args.self.now.now _ _ h.swept (from_remain c.args.self.now.now _ _ c.wait.ensures.lingering) h.in_time;
})

pub returns-clause-order : goal.returns-clause-order
returns-clause-order g c = λ h.
    let timed = c.take_time.ensures.order (record {
      queued = h.queued;
      swept = h.swept;
      in_time = still_in_time _ c.args.self.now.now _ _ h.swept (from_remain c.args.self.now.now _ _ c.wait.ensures.lingering) h.in_time;
    }) in
    record {
      queued = c.accept_all.ensures.queued _ timed.queued;
      swept = timed.swept;
      in_time = still_in_time _ c.take_time.new.self.now _ _ timed.swept c.accept_all.ensures.lingering timed.in_time;
    }
