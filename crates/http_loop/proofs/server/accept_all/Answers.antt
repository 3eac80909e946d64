use Rattle.std.proofs.Common.{refl}
use Rattle.http_loop.proofs.TimeLaws.{from_same, from_then}
use Rattle.http_loop.proofs.server.accept_all.Goals as goal

pub loop-init : goal.loop-init
loop-init g c = (
  (λ calls before h. h),
  (λ few. few),
  from_same c.args.beginning.now (g.L.Listener.lingering c.args.listener.now) _ refl,
  (λ queue h. h),
)

pub loop-preserved : goal.loop-preserved
loop-preserved g c =
    let was = c.loop.invariant in
    let one = c.accept_one.ensures in (
      (λ calls before h. one.served calls before (was.0 calls before h)),
      (λ few. one.few (was.1 few)),
      from_then c.args.beginning.now _ _ _ was.2 one.lingering,
      (λ queue h. one.queued queue (was.3 queue h)),
    )
