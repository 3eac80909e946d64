use Rattle.source_core.specs.Heard.{moment}
use Rattle.source_core.proofs.TryLaws.{HasTriedSo}
use Rattle.source_core.proofs.exchange.send_move.Given as goal

abbrev pub invariant-loop-index : goal.invariant-loop-index
invariant-loop-index g l =
    let o = g.S.System.outside l.system in
    HasTriedSo l.fn.terms l.number l.bytes (moment o l.fn.timeline l.fn.exchange.port) (moment o l.timeline l.exchange.port) l.fn.exchange.known l.exchange.known l.index
