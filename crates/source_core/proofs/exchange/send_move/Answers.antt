use Rattle.std.proofs.Common.{arith}
use Rattle.source_core.proofs.TryLaws.{move_cut, move_ended, tries_more, tries_none}
use Rattle.source_core.proofs.TurnLaws.{spelled_so}
use Rattle.source_core.proofs.exchange.send_move.Goals as goal

pub loop-index-init : goal.loop-index-init
loop-index-init g c = tries_none _ _ _ _ _

pub loop-index-preserved : goal.loop-index-preserved
loop-index-preserved g c = tries_more _ _ _ _ _ _ _ _ _ _ c.loop-index.invariant c.in_default.ensures.0 c.in_default-try_once.ensures

pub returns-in-Some-try_once : goal.returns-in-Some-try_once
returns-in-Some-try_once g c =
    let lt = c.loop-index-test.true in
    move_cut _ _ _ _ _ _ c.datagram_of-bytes.ensures.text (spelled_so _ _ _ _ c.datagram_of-bytes.ensures) _ _ _ _ _ _ _ _ c.loop-index.invariant (omega arith) c.in_default.ensures.0 c.in-Some-try_once.ensures

pub returns-in-Some : goal.returns-in-Some
returns-in-Some g c =
    let lt = c.loop-index-test.true in
    move_ended _ _ _ _ _ _ c.datagram_of-bytes.ensures.text (spelled_so _ _ _ _ c.datagram_of-bytes.ensures) _ _ _ _ _ _ c.loop-index.invariant (omega arith) c.in-Some.ensures
