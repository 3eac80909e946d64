use Rattle.std.proofs.Common.{◌≡◌, ◌<◌, ◌≤◌, ℕ}
use Rattle.slab.specs.Slab.{get, slab_len}
use Rattle.http_loop.specs.Late.{unless_late}
use Rattle.http_loop.specs.Serving.{AllStayServed}
use Rattle.http_loop.specs.Times.{LingerFrom}
use Rattle.http_loop.proofs.server.close_late.Given as goal

abbrev pub invariant-loop-key : goal.invariant-loop-key
invariant-loop-key g l =
    AllStayServed g.L.Listener.streams g.L.Reader.Read.remaining g.L.Writer.Write.contents l.fn.listener l.fn.peers l.listener l.peers
    × (slab_len l.peers ≤ slab_len l.fn.peers)
    × LingerFrom l.fn.now (g.L.Listener.lingering l.fn.listener) (g.L.Listener.lingering l.listener)
    × ((at : ℕ) → at < l.key → get l.peers at ≡ unless_late l.fn.now l.fn.exchange (get l.fn.peers at))
    × ((at : ℕ) → l.key ≤ at → get l.peers at ≡ get l.fn.peers at)
