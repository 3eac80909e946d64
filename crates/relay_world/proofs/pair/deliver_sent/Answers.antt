use Rattle.std.proofs.Common.{◌≡◌, ◌∙◌, ℕ, ◌<◌, zero, suc, List, [], ◌∷◌, length, get_or, Option, Some, Result, Ok, Err, sym, ap, subst, arith}
use Rattle.std.specs.Prelude.{slice_get}
use Rattle.std.proofs.lemmas.Result.{on_ok_weaker}
use Rattle.move_msg.specs.declared.message.Message.{Message}
use Rattle.move_msg.specs.Messages.{stamp_in}
use Rattle.arbiter_core.specs.Delivers.{heard, in_game}
use Rattle.arbiter_core.specs.Answering.{answer_heard}
use Rattle.arbiter_core.specs.declared.fault.DeliverFault.{DeliverFault}
use Rattle.arbiter_core.specs.declared.fault.DeliverFault.TheVariants.{Stranger}
use Rattle.move_msg.proofs.HeardLaws.{heard as heard_in_full}
use Rattle.move_msg.specs.declared.stamp.Stamp.{Stamp}
use Rattle.std.specs.Str.{bytes_eq}
use Rattle.std.proofs.lemmas.Bool.{cond-true}
use Rattle.std.proofs.lemmas.Slice.Eq.{bytes_eq-Decides}
use Rattle.relay_world.specs.Inside.Pairs.{PairIs}
use Rattle.relay_world.specs.Worlds.{delivered, with_side, hears, side_in, identity}
use Rattle.relay_world.proofs.Steps.{all_at}
use Rattle.relay_world.proofs.pair.deliver_sent.Goals as goal

get_in : (log : List Message) (i : ℕ) (d m : Message) → i < length log → m ≡ get_or log i d → slice_get log i ≡ Some m
get_in [] i d m l e = absurd (omega arith)
get_in (x ∷ xs) zero d m l e = ap Some (sym e)
get_in (x ∷ xs) (suc i) d m l e = get_in xs i d m (omega arith) e

-- a message of the game is heard
ours_said : (stamp : Stamp) (m : Message) → stamp_in m ≡ stamp → in_game stamp (Ok m) ≡ Ok m
ours_said stamp m e = cond-true (bytes_eq (stamp_in m) stamp) (Ok m) (Err Stranger) ((bytes_eq-Decides (stamp_in m) stamp).1 e)

pub returns : goal.returns
returns c =
    on_ok_weaker c.deliver_to.result (λ after game a b world stands.
    let m : Message = c.index.result.now in
    let within : c.args.index < length c.args.pair.now.log.items = omega arith in
    let got : slice_get world.log c.args.index ≡ Some m = ap (λ (log : List Message). slice_get log c.args.index) (sym stands.is.log_is) ∙ get_in c.args.pair.now.log.items c.args.index _ m within c.index.ensures in
    let ours : stamp_in m ≡ game.stamp = all_at _ world.log c.args.index m stands.stamped got in
    let said : heard game.stamp c.encode.result ≡ Ok m = ap (in_game game.stamp) (heard_in_full c.encode.result m c.encode.ensures) ∙ ours_said game.stamp m ours in
    subst (λ (o : Option Message). PairIs game a b c.deliver_to.new.pair (delivered game world c.args.who c.args.keep o)) (sym got)
    (subst (λ (s : Result Message DeliverFault). PairIs game a b c.deliver_to.new.pair (with_side world c.args.who (hears c.args.keep (side_in world c.args.who) (λ old window. answer_heard game.rules (identity game c.args.who) old window s)))) said
    (after game a b world stands))) c.deliver_to.ensures
