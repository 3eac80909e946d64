use Rattle.std.proofs.Common.{arith}
use Rattle.http_loop.proofs.ServingLaws.{same_after, same_all}
use Rattle.http_loop.proofs.WaitLaws.{all_anew, anew_below}
use Rattle.http_loop.proofs.server.count_anew.Goals as goal

pub loop-key-init : goal.loop-key-init
loop-key-init g c = (same_all _, (λ at below. absurd (omega (arith, below))))

pub loop-key-preserved : goal.loop-key-preserved
loop-key-preserved g c = (
  same_after _ _ _ c.loop-key.invariant.0 c.count_one_anew.ensures.same,
  anew_below c.args.now c.loop-key.peers c.count_one_anew.new.peers _ c.count_one_anew.ensures.others c.count_one_anew.ensures.anew c.loop-key.invariant.1,
)

pub returns-clause-same : goal.returns-clause-same
returns-clause-same g c = c.loop-key.invariant.0

pub returns-clause-anew : goal.returns-clause-anew
returns-clause-anew g c =
    all_anew c.args.now c.args.peers.now c.loop-key.peers _ (omega (arith, c.capacity-key-end.ensures.slots, c.loop-key-test.false)) c.loop-key.invariant.0 c.loop-key.invariant.1
