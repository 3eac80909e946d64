use Rattle.std.proofs.Common.{arith, refl}
use Rattle.http_loop.proofs.ServingLaws.{on_nothing, on_then}
use Rattle.http_loop.proofs.TimeLaws.{from_same, from_then}
use Rattle.http_loop.proofs.TurnLaws.{grows_none, grows_then}
use Rattle.http_loop.proofs.server.give_turns.Goals as goal

pub loop-key-init : goal.loop-key-init
loop-key-init g c = (
  (λ config. on_nothing _ _ g.S.Service.answers config _ _ _),
  omega arith,
  from_same c.args.now (g.L.Listener.lingering c.args.listener.now) _ refl,
  (λ h. h),
  grows_none _ _ refl,
)

pub loop-key-preserved : goal.loop-key-preserved
loop-key-preserved g c =
    let was = c.loop-key.invariant in (
      (λ config. on_then _ _ g.S.Service.answers config _ _ _ _ _ _ _ _ _ (was.0 config) (c.give_ready_turn.ensures.served config)),
      omega (arith, was.1, c.give_ready_turn.ensures.fewer),
      from_then c.args.now _ _ _ was.2 c.give_ready_turn.ensures.lingering,
      (λ h. c.give_ready_turn.ensures.queued (was.3 h)),
      grows_then _ _ _ was.4 c.give_ready_turn.ensures.behind,
    )
