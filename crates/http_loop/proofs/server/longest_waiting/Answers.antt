use Rattle.std.proofs.Common.{arith}
use Rattle.http_loop.proofs.WaitLaws.{longest_at_first, longest_contained, longest_more, longest_waits, waits_longest}
use Rattle.http_loop.proofs.server.longest_waiting.Goals as goal

pub loop-key-init : goal.loop-key-init
loop-key-init g c = longest_at_first c.args.peers.now c.args.newest

pub loop-key-preserved : goal.loop-key-preserved
loop-key-preserved g c = longest_more c.args.peers.now c.args.newest _ _ _ _ c.waiting_since.ensures c.longer_waiting-longest.ensures c.loop-key.invariant

pub returns-clause-contained : goal.returns-clause-contained
returns-clause-contained g c = longest_contained c.args.peers.now c.args.newest _ _ c.loop-key.invariant

pub returns-clause-waits : goal.returns-clause-waits
returns-clause-waits g c = longest_waits c.args.peers.now c.args.newest _ _ c.loop-key.invariant

pub returns-clause-longest : goal.returns-clause-longest
returns-clause-longest g c =
    waits_longest c.args.peers.now c.args.newest _ _ (omega (arith, c.capacity-key-end.ensures.slots, c.loop-key-test.false)) c.loop-key.invariant
