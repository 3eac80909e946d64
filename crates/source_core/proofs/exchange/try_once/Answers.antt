use Rattle.std.proofs.Common.{subst, sym}
use Rattle.source_core.specs.Heard.{moment}
use Rattle.source_core.specs.Inside.Exchanges.{TriesOnce}
use Rattle.source_core.proofs.TryLaws.{tried_so}
use Rattle.source_core.proofs.exchange.try_once.Goals as goal

pub returns : goal.returns
returns g c =
    let o = g.S.System.outside c.args.system.now in
    let old = moment o c.args.timeline.now c.args.exchange.now.port in
    let mid = moment o c.send.new.timeline c.send.new.exchange.port in
    let new = moment o c.receive_all.new.timeline c.receive_all.new.exchange.port in
    let known = c.args.exchange.now.known in
    let later = c.receive_all.new.exchange.known in
    subst (TriesOnce c.args.terms.now c.args.at.index c.args.at.number c.args.bytes.now old new known later) (sym c.loss_of.ensures)
    (tried_so c.args.terms.now c.args.at.index c.args.at.number c.args.bytes.now old mid new known c.send.new.exchange.known later c.receive_all.result c.send.ensures.known c.send.ensures.happened c.receive_all.ensures)
