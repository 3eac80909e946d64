use Rattle.std.proofs.Common.{None, arith, inl, inr, refl}
use Rattle.std.proofs.lemmas.List.{get_or_past}
use Rattle.http_loop.proofs.TimeLaws.{from_same}
use Rattle.http_loop.proofs.server.close_each.Goals as goal

pub loop-key-init : goal.loop-key-init
loop-key-init g c = (
  (λ config calls before h. h),
  (λ at out.
      elim out [
        | inl none ↦ absurd (omega (arith, none))
        | inr past ↦ get_or_past c.args.peers.now.slots at None (omega (arith, past, c.capacity-key-end.ensures.slots))
      ]),
  from_same c.args.now (g.L.Listener.lingering c.args.listener.now) _ refl,
)
