use Rattle.std.proofs.Common.{sym, subst}
use Rattle.std.specs.Prelude.{IfOk}
use Rattle.move_msg.specs.declared.arbiter_id.ArbiterId.{ArbiterId}
use Rattle.relay_world.specs.Inside.Pairs.{IsPairAfter, restarts}
use Rattle.relay_world.proofs.pair.restart_at.Goals as goal

pub returns-in-A : goal.returns-in-A
returns-in-A c = subst (λ (w : ArbiterId). IfOk c.restart_first.result (IsPairAfter c.args.pair (restarts w c.args.keep))) (sym c.in-A.is) c.restart_first.ensures

pub returns-in-B : goal.returns-in-B
returns-in-B c = subst (λ (w : ArbiterId). IfOk c.restart_second.result (IsPairAfter c.args.pair (restarts w c.args.keep))) (sym c.in-B.is) c.restart_second.ensures
