use Rattle.std.proofs.Common.{sym, subst}
use Rattle.move_msg.specs.declared.arbiter_id.ArbiterId.{ArbiterId}
use Rattle.move_msg.specs.declared.arbiter_id.ArbiterId.TheVariants.{A, B}
use Rattle.relay_world.specs.Inside.Pairs.{IsAsked}
use Rattle.relay_world.specs.Worlds.{identity, listed}
use Rattle.relay_world.proofs.pair.asked_by.Goals as goal

pub returns-in-A : goal.returns-in-A
returns-in-A c =
    subst (λ (w : ArbiterId). IsAsked c.args.pair.now w (listed c.ask.result)) (sym c.in-A.is)
    (λ game a b world stands. c.ask.ensures (identity game A) a world.a stands.is.a_stands)

pub returns-in-B : goal.returns-in-B
returns-in-B c =
    subst (λ (w : ArbiterId). IsAsked c.args.pair.now w (listed c.ask-in-B.result)) (sym c.in-B.is)
    (λ game a b world stands. c.ask-in-B.ensures (identity game B) b world.b stands.is.b_stands)
