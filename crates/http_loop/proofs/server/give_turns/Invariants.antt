use Rattle.std.proofs.Common.{◌≤◌}
use Rattle.std.specs.VecDeque.{deque_items}
use Rattle.slab.specs.Slab.{slab_len}
use Rattle.http_loop.specs.Serving.{ServedBy}
use Rattle.http_loop.specs.Times.{LingerFrom}
use Rattle.http_loop.specs.Turns.{AreQueued, GrowsBehind}
use Rattle.http_loop.proofs.server.give_turns.Given as goal

abbrev pub invariant-loop-key : goal.invariant-loop-key
invariant-loop-key g l =
    ServedBy g.L.Listener.streams g.L.Reader.Read.remaining g.L.Writer.Write.contents g.S.Service.answers l.fn.service l.service l.fn.listener l.fn.peers l.listener l.peers
    × (slab_len l.peers ≤ slab_len l.fn.peers)
    × LingerFrom l.fn.now (g.L.Listener.lingering l.fn.listener) (g.L.Listener.lingering l.listener)
    × (AreQueued l.fn.peers (deque_items l.fn.going) → AreQueued l.peers (deque_items l.going))
    × GrowsBehind (deque_items l.fn.going) (deque_items l.going)
