use Rattle.std.proofs.Common.{arith, sym, ◌∙◌}
use Rattle.http_loop.proofs.ServingLaws.{after_nothing}
use Rattle.http_loop.proofs.TimeLaws.{left_in_time, not_passed}
use Rattle.http_loop.proofs.TurnLaws.{queued_after_late}
use Rattle.http_loop.proofs.server.Server.sweep.Goals as goal

pub returns-then-has_passed-clause-served : goal.returns-then-has_passed-clause-served
returns-then-has_passed-clause-served g c = λ calls before h.
    let config = c.args.self.now.limits.config in
    after_nothing _ _ config calls before _ _ _ c.let_go.ensures.streams (c.close_late.ensures.served config calls before h)

pub returns-then-has_passed-clause-order : goal.returns-then-has_passed-clause-order
returns-then-has_passed-clause-order g c = λ h. record {
  queued = queued_after_late c.args.self.now.now c.args.self.now.limits.exchange _ _ c.close_late.ensures.late _ h.queued;
  swept = omega arith;
  in_time = left_in_time c.args.self.now.now _ _ _ c.from_secs.ensures c.let_go.ensures.lingering;
}

pub returns-then-has_passed-clause-swept : goal.returns-then-has_passed-clause-swept
returns-then-has_passed-clause-swept g c = not_passed c.args.self.now.now _

pub returns-else-has_passed-clause-swept : goal.returns-else-has_passed-clause-swept
returns-else-has_passed-clause-swept g c = sym c.has_passed.ensures ∙ c.if-has_passed.false
