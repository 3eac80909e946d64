use Rattle.std.proofs.Common.{◌≡◌, ◌⊎◌, ◌<◌, ◌≤◌, ℕ, None}
use Rattle.slab.specs.Slab.{get}
use Rattle.http_loop.specs.Serving.{AllStayServed}
use Rattle.http_loop.specs.Times.{LingerFrom}
use Rattle.http_loop.proofs.server.close_each.Given as goal

abbrev pub invariant-loop-key : goal.invariant-loop-key
invariant-loop-key g l =
    AllStayServed g.L.Listener.streams g.L.Reader.Read.remaining g.L.Writer.Write.contents l.fn.listener l.fn.peers l.listener l.peers
    × ((at : ℕ) → (at < l.key) ⊎ (l.key-end ≤ at) → get l.peers at ≡ None)
    × LingerFrom l.fn.now (g.L.Listener.lingering l.fn.listener) (g.L.Listener.lingering l.listener)
