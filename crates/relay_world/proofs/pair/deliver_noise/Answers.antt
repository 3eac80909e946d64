use Rattle.std.proofs.Common.{◌≡◌, ◌∙◌, false, Result, sym, ap, subst}
use Rattle.std.specs.Prelude.{is_ok}
use Rattle.std.proofs.lemmas.Bool.{cond-false}
use Rattle.std.proofs.lemmas.Result.{on_ok_weaker}
use Rattle.move_msg.specs.declared.message.Message.{Message}
use Rattle.move_msg.specs.declared.stamp.Stamp.{Stamp}
use Rattle.arbiter_core.specs.declared.fault.DeliverFault.{DeliverFault}
use Rattle.arbiter_core.specs.Delivers.{heard}
use Rattle.relay_world.specs.Inside.Pairs.{PairIs, hears_datagram}
use Rattle.relay_world.specs.Worlds.{World}
use Rattle.relay_world.proofs.pair.deliver_noise.Goals as goal

pub returns : goal.returns
returns c =
    on_ok_weaker c.deliver_to.result (λ after game a b world stands.
    let said : Result Message DeliverFault = heard game.stamp c.args.bytes.now in
    let bad : is_ok said ≡ false = ap (λ (s : Stamp). is_ok (heard s c.args.bytes.now)) (sym stands.is.stamp_is) ∙ sym c.is_ours.ensures ∙ c.if-is_ours.false in
    subst (λ (w : World). PairIs game a b c.deliver_to.new.pair w) (sym (cond-false (is_ok said) world (hears_datagram c.args.who c.args.keep c.args.bytes.now game world) bad))
    (after game a b world stands)) c.deliver_to.ensures
