use Rattle.std.proofs.Common.{◌≡◌, ◌<◌, ℕ}
use Rattle.std.specs.Prelude.{IfSome}
use Rattle.slab.specs.Slab.{get}
use Rattle.http_loop.specs.Serving.{HaveSameEnds}
use Rattle.http_loop.proofs.server.count_anew.Given as goal

abbrev pub invariant-loop-key : goal.invariant-loop-key
invariant-loop-key g l =
    HaveSameEnds l.fn.peers l.peers × ((at : ℕ) → at < l.key → IfSome (get l.peers at) (λ peer. peer.since ≡ l.fn.now))
