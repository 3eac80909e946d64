use Rattle.std.proofs.Common.{◌≤◌}
use Rattle.slab.specs.Slab.{slab_len}
use Rattle.http_loop.specs.Serving.{StayServed}
use Rattle.http_loop.specs.Times.{LingerFrom}
use Rattle.http_loop.specs.Turns.{StayQueued}
use Rattle.http_loop.proofs.server.accept_all.Given as goal

abbrev pub invariant-loop : goal.invariant-loop
invariant-loop g l =
    StayServed g.L.Listener.streams g.L.Reader.Read.remaining g.L.Writer.Write.contents l.fn.beginning.limits.config l.fn.listener l.fn.peers l.listener l.peers
    × (slab_len l.fn.peers ≤ l.fn.beginning.limits.connections → slab_len l.peers ≤ l.fn.beginning.limits.connections)
    × LingerFrom l.fn.beginning.now (g.L.Listener.lingering l.fn.listener) (g.L.Listener.lingering l.listener)
    × StayQueued l.fn.peers l.peers
