use Rattle.std.proofs.Common.{subst}
use Rattle.std.proofs.lemmas.Result.{on_ok_weaker}
use Rattle.move_msg.specs.declared.arbiter_id.ArbiterId.TheVariants.{B}
use Rattle.judge_core.specs.Games.{Rules}
use Rattle.relay_world.specs.Inside.Seats.{Steps}
use Rattle.relay_world.specs.Worlds.{answer_to_datagram, hears, identity}
use Rattle.relay_world.proofs.Pairing.{turned_b}
use Rattle.relay_world.proofs.pair.deliver_second.Goals as goal

pub returns : goal.returns
returns c =
    on_ok_weaker c.append.result (λ more game a b world stands.
    let step = subst (λ (r : Rules). Steps (identity game B) b c.deliver.new.self.place c.deliver.new.self.keeper c.in_ok-outputs.outputs.items (hears c.args.keep world.b (answer_to_datagram r (identity game B) c.args.bytes.now))) stands.setups.rules_b
    (c.in_ok-outputs.ensures.sent (identity game B) b world.b stands.is.b_stands) in
    turned_b game a b _ _ _ _ _ _ _ _ _ _ world _ stands.is step more) c.append.ensures
