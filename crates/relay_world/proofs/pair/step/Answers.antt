use Rattle.std.proofs.Common.{◌≡◌, ◌∙◌, ℕ, List, [], refl, sym, ap, subst}
use Rattle.std.specs.Prelude.{Result, Ok, Err, IfOk, OnOk, IsOk, slice_get}
use Rattle.std.proofs.lemmas.Result.{IfOk-weaker, on_ok_weaker}
use Rattle.move_msg.specs.declared.arbiter_id.ArbiterId.{ArbiterId}
use Rattle.arbiter_core.specs.declared.keeper.Keep.{Keep}
use Rattle.relay_world.specs.declared.event.Event.TheVariants.{Deliver, Restart, Ask}
use Rattle.arbiter_core.specs.Delivers.{heard}
use Rattle.relay_world.specs.declared.pair.Pair.{Pair}
use Rattle.relay_world.specs.Inside.Pairs.{IsPairAfter, PairIs}
use Rattle.relay_world.specs.Worlds.{Judged, World, identity, side_in, with_side, restarted, wants, delivered, noised, happens}
use Rattle.relay_world.proofs.pair.step.Goals as goal

deliver_is : (game : Judged) (world : World) (who : ArbiterId) (index : ℕ) (keep : Keep) → happens game world (Deliver who index keep) ≡ delivered game world who keep (slice_get world.log index)
unfolding happens
deliver_is game world who index keep = refl

restart_is : (game : Judged) (world : World) (who : ArbiterId) (keep : Keep) → happens game world (Restart who keep) ≡ with_side world who (restarted game.rules keep (side_in world who).kept, [])
unfolding happens
restart_is game world who keep = refl

ask_is : (game : Judged) (world : World) (who : ArbiterId) → happens game world (Ask who) ≡ with_side world who (side_in world who, wants (identity game who) (side_in world who).kept (side_in world who).life)
unfolding happens
ask_is game world who = refl

-- what was done to a pair holds of what is handed on
through : {A B E F : Type 0} (handed_on : Result A E) (done : Result B F) (p : A) (X : A → Type 0) → IfOk handed_on (λ late. late ≡ p) → OnOk handed_on (IsOk done) → OnOk done (X p) → IfOk handed_on X
through (Ok late) (Ok u) p X is went x = subst X (sym is) x
through (Ok late) (Err e) p X is went x = absurd (let h = went in cc)
through (Err e) done p X is went x = tt

-- a step holds as an equal one
as_step : {B F : Type 0} (done : Result B F) (old new : Pair) (one other : Judged → World → World) → ((game : Judged) (world : World) → one game world ≡ other game world) → OnOk done (IsPairAfter old one new) → OnOk done (IsPairAfter old other new)
as_step done old new one other same h = on_ok_weaker done (λ after game a b world stands. subst (λ (w : World). PairIs game a b new w) (same game world) (after game a b world stands)) h

pub returns-in-Deliver : goal.returns-in-Deliver
returns-in-Deliver c =
    through c.if_done.result c.deliver_sent-done.result _ (IsPairAfter c.args.pair (λ game world. happens game world c.args.event.now)) c.if_done.ensures.pair c.if_done.ensures.done
    (as_step c.deliver_sent-done.result c.args.pair c.deliver_sent-done.new.pair _ (λ game world. happens game world c.args.event.now) (λ game world. sym (ap (happens game world) c.in-Deliver.is ∙ deliver_is game world c.in-Deliver.who c.in-Deliver.index c.in-Deliver.keep)) c.deliver_sent-done.ensures)

pub returns-in-Noise : goal.returns-in-Noise
unfolding happens
returns-in-Noise c =
    let same : (game : Judged) (world : World) → happens game world c.args.event.now ≡ noised game world c.in-Noise.who c.in-Noise.keep (heard game.stamp c.deref.result.now) = λ game world.
    ap (happens game world) c.in-Noise.is ∙ ap (λ (xs : List ℕ). noised game world c.in-Noise.who c.in-Noise.keep (heard game.stamp xs)) (sym c.deref.ensures.value) in
    through c.if_done-in-Noise.result c.deliver_noise-done.result _ (IsPairAfter c.args.pair (λ game world. happens game world c.args.event.now)) c.if_done-in-Noise.ensures.pair c.if_done-in-Noise.ensures.done
    (as_step c.deliver_noise-done.result c.args.pair c.deliver_noise-done.new.pair _ (λ game world. happens game world c.args.event.now) (λ game world. sym (same game world)) c.deliver_noise-done.ensures)

pub returns-in-Restart : goal.returns-in-Restart
returns-in-Restart c =
    IfOk-weaker c.restart_at.result _ _ (λ late after game a b world stands. subst (λ (w : World). PairIs game a b late w) (sym (ap (happens game world) c.in-Restart.is ∙ restart_is game world c.in-Restart.who c.in-Restart.keep)) (after game a b world stands)) c.restart_at.ensures

pub returns-in-Ask : goal.returns-in-Ask
returns-in-Ask c =
    through c.if_done-in-Ask.result c.ask_at-done.result _ (IsPairAfter c.args.pair (λ game world. happens game world c.args.event.now)) c.if_done-in-Ask.ensures.pair c.if_done-in-Ask.ensures.done
    (as_step c.ask_at-done.result c.args.pair c.ask_at-done.new.pair _ (λ game world. happens game world c.args.event.now) (λ game world. sym (ap (happens game world) c.in-Ask.is ∙ ask_is game world c.in-Ask.who)) c.ask_at-done.ensures)
