use Rattle.std.proofs.Common.{subst}
use Rattle.std.proofs.lemmas.Result.{on_ok_weaker}
use Rattle.move_msg.specs.declared.arbiter_id.ArbiterId.TheVariants.{A}
use Rattle.judge_core.specs.Games.{Rules}
use Rattle.relay_world.specs.Inside.Seats.{Steps}
use Rattle.relay_world.specs.Worlds.{answer_to_datagram, hears, identity}
use Rattle.relay_world.proofs.Pairing.{turned_a}
use Rattle.relay_world.proofs.pair.deliver_first.Goals as goal

pub returns : goal.returns
returns c =
    on_ok_weaker c.append.result (λ more game a b world stands.
    let step = subst (λ (r : Rules). Steps (identity game A) a c.deliver.new.self.place c.deliver.new.self.keeper c.in_ok-outputs.outputs.items (hears c.args.keep world.a (answer_to_datagram r (identity game A) c.args.bytes.now))) stands.setups.rules_a
    (c.in_ok-outputs.ensures.sent (identity game A) a world.a stands.is.a_stands) in
    turned_a game a b _ _ _ _ _ _ _ _ _ _ world _ stands.is step more) c.append.ensures
