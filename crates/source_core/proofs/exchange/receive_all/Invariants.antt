use Rattle.source_core.specs.Heard.{moment}
use Rattle.source_core.proofs.TryLaws.{HasHeard}
use Rattle.source_core.proofs.exchange.receive_all.Given as goal

abbrev pub invariant-loop : goal.invariant-loop
invariant-loop g l =
    let o = g.S.System.outside l.system in
    HasHeard l.fn.terms.stamp (moment o l.fn.timeline l.fn.exchange.port) (moment o l.timeline l.exchange.port) l.fn.exchange.known l.exchange.known l.counter
