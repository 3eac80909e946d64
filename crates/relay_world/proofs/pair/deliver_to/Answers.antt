use Rattle.std.proofs.Common.{sym, subst}
use Rattle.std.specs.Prelude.{OnOk}
use Rattle.move_msg.specs.declared.arbiter_id.ArbiterId.{ArbiterId}
use Rattle.relay_world.specs.Inside.Pairs.{IsPairAfter, hears_datagram}
use Rattle.relay_world.proofs.pair.deliver_to.Goals as goal

pub returns-in-A : goal.returns-in-A
returns-in-A c = subst (λ (w : ArbiterId). OnOk c.deliver_first.result (IsPairAfter c.args.pair.now (hears_datagram w c.args.keep c.args.bytes.now) c.deliver_first.new.pair)) (sym c.in-A.is) c.deliver_first.ensures

pub returns-in-B : goal.returns-in-B
returns-in-B c = subst (λ (w : ArbiterId). OnOk c.deliver_second.result (IsPairAfter c.args.pair.now (hears_datagram w c.args.keep c.args.bytes.now) c.deliver_second.new.pair)) (sym c.in-B.is) c.deliver_second.ensures
