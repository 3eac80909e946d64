use Rattle.std.proofs.Common.{arith}
use Rattle.http_loop.proofs.ServingLaws.{after_nothing, after_same}
use Rattle.http_loop.proofs.TimeLaws.{anew_in_time}
use Rattle.http_loop.proofs.TurnLaws.{queued_after_same}
use Rattle.http_loop.proofs.server.Server.count_all_anew.Goals as goal

pub returns-clause-served : goal.returns-clause-served
returns-clause-served g c = λ calls before h.
    let config = c.args.self.now.limits.config in
    after_nothing _ _ config calls before _ _ _ c.count_anew-2.ensures.streams (after_same _ _ config calls before _ _ _ c.count_anew.ensures.same h)

pub returns-clause-order : goal.returns-clause-order
returns-clause-order g c = λ queued. record {
  queued = queued_after_same _ _ c.count_anew.ensures.same _ queued;
  swept = omega arith;
  in_time = anew_in_time c.args.self.now.now _ c.count_anew-2.ensures.lingering;
}
