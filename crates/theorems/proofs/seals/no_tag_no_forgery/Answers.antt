use Rattle.std.proofs.Common.{◌≡◌, ◌∙◌, ℕ, Bool, true, false, List, Result, Ok, Err, ap, refl, sym}
use Rattle.std.specs.Str.{bytes_eq}
use Rattle.std.proofs.lemmas.Slice.Eq.{bytes_eq-Decides}
use Rattle.arbiter_core.specs.Delivers.{heard}
use Rattle.arbiter_core.specs.declared.fault.DeliverFault.{DeliverFault}
use Rattle.arbiter_core.specs.declared.fault.DeliverFault.TheVariants.{NotAMessage}
use Rattle.move_msg.specs.Heard.{heard_in}
use Rattle.move_msg.specs.declared.message.Message.{Message}
use Rattle.move_msg.specs.declared.message.MessageFault.TheVariants.{NoTag}
use Rattle.move_msg.specs.declared.stamp.Stamp.{Stamp}
use Rattle.theorems.specs.Nets.{IsNoForgery}
use Rattle.relay_world.specs.Worlds.{Judged}
use Rattle.sealed_port.specs.Laws.{OnlySealedIsPassedOn}
use Rattle.sealed_port.specs.Sealing.{is_sealed_by, opened}
use Rattle.sealed_port.specs.declared.seal_port.Keys.{Keys}
use Rattle.system_io.specs.Ports.{no_tag}
use Rattle.theorems.specs.Seals.{HasNoForgedTag}
use Rattle.theorems.proofs.seals.no_tag_no_forgery.Goals as goal

-- what stands for a missing tag is no message
none_heard : (stamp : Stamp) → heard stamp no_tag ≡ Err (NotAMessage NoTag)
unfolding heard_in
none_heard stamp = refl

no_message : (stamp : Stamp) (bytes : List ℕ) (m : Message) → bytes ≡ no_tag → heard stamp bytes ≡ Ok m → ⊥
no_message stamp bytes m none h =
    let both : ◌≡◌ {A = Result Message DeliverFault} (Ok m) (Err (NotAMessage NoTag)) = sym h ∙ ap (heard stamp) none ∙ none_heard stamp in absurd cc

by_test : OnlySealedIsPassedOn → (game : Judged) (log : List Message) (keys : Keys) (datagram passed : List ℕ) → opened (is_sealed_by keys datagram) datagram ≡ passed → HasNoForgedTag game log keys datagram → (b : Bool) → bytes_eq passed no_tag ≡ b → IsNoForgery game log passed
by_test law game log keys datagram passed is unforged true e = λ m h heeds. absurd (no_message game.stamp passed m ((bytes_eq-Decides passed no_tag).0 e) h)
by_test law game log keys datagram passed is unforged false e = unforged passed (law keys datagram passed is (λ same. let yes : bytes_eq passed no_tag ≡ true = (bytes_eq-Decides passed no_tag).1 same in absurd cc))

pub returns : goal.returns
returns c = λ game log keys datagram unforged. by_test c.only_sealed_is_passed_on.ensures game log keys datagram (opened (is_sealed_by keys datagram) datagram) refl unforged (bytes_eq (opened (is_sealed_by keys datagram) datagram) no_tag) refl
