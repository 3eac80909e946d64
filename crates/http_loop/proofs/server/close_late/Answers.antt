use Rattle.std.proofs.Common.{arith, refl}
use Rattle.http_loop.proofs.TimeLaws.{from_same, from_then}
use Rattle.http_loop.proofs.TurnLaws.{all_late, late_below, same_above}
use Rattle.http_loop.proofs.server.close_late.Goals as goal

pub loop-key-init : goal.loop-key-init
loop-key-init g c = (
  (λ config calls before h. h),
  omega arith,
  from_same c.args.now (g.L.Listener.lingering c.args.listener.now) _ refl,
  (λ at below. absurd (omega arith)),
  (λ at above. refl),
)

pub loop-key-preserved : goal.loop-key-preserved
loop-key-preserved g c =
    let was = c.loop-key.invariant in
    let one = c.close_if_late.ensures in (
      (λ config calls before h. one.served config calls before (was.0 config calls before h)),
      omega (arith, was.1, one.fewer),
      from_then c.args.now _ _ _ was.2 one.lingering,
      late_below c.args.now c.args.exchange c.args.peers.now c.loop-key.peers c.close_if_late.new.peers _ one.late was.3 was.4,
      same_above c.args.now c.args.exchange c.args.peers.now c.loop-key.peers c.close_if_late.new.peers _ one.late was.4,
    )

pub returns-clause-late : goal.returns-clause-late
returns-clause-late g c = all_late c.args.now c.args.exchange c.args.peers.now c.loop-key.peers c.loop-key.key (omega (arith, c.capacity-key-end.ensures.slots, c.loop-key-test.false)) c.loop-key.invariant.3 c.loop-key.invariant.4
