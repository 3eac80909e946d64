use Rattle.std.proofs.Common.{◌≡◌, ap, sym, ◌∙◌, subst}
use Rattle.std.proofs.lemmas.Result.{IfOk-weaker, on_err_weaker}
use Rattle.arbiter_core.specs.Memory.{Memory}
use Rattle.relay_world.specs.declared.replica.Place.{Place}
use Rattle.relay_world.specs.Inside.Fields.{place_view}
use Rattle.relay_world.specs.Inside.Seats.{IsDelivered, IsStarved, Open, SeatView, seat}
use Rattle.relay_world.proofs.Hearing.{set_first, starved_first}
use Rattle.relay_world.proofs.replica.Replica.deliver.Goals as goal

pub returns-in-Open-clause-sent : goal.returns-in-Open-clause-sent
returns-in-Open-clause-sent c =
    let late : SeatView = seat (Open c.answer.new.arbiter) c.answer.new.keeper in
    let was : seat (Open c.in-Open.arbiter) c.self.inside.keeper ≡ c.args.self.now = ap (λ (p : Place). seat (place_view p) c.self.inside.keeper) (sym c.in-Open.is) ∙ c.self.view_is in
    IfOk-weaker c.answer.result _ _ (λ outputs sent. subst (λ (s : SeatView). IsDelivered c.args.keep c.args.bytes.now s late outputs.items) was
    (set_first c.args.keep c.args.bytes.now (Open c.in-Open.arbiter) c.self.inside.keeper c.set.new.self late outputs.items (ap (λ (m : Memory). m.kept) c.set.ensures) (ap (λ (m : Memory). m.keep) c.set.ensures) sent)) c.answer.ensures.sent

pub returns-in-Open-clause-memory : goal.returns-in-Open-clause-memory
returns-in-Open-clause-memory c =
    let late : SeatView = seat (Open c.answer.new.arbiter) c.answer.new.keeper in
    let was : seat (Open c.in-Open.arbiter) c.self.inside.keeper ≡ c.args.self.now = ap (λ (p : Place). seat (place_view p) c.self.inside.keeper) (sym c.in-Open.is) ∙ c.self.view_is in
    on_err_weaker c.answer.result (λ starved. subst (λ (s : SeatView). IsStarved c.args.bytes.now s late) was
    (starved_first c.args.bytes.now (Open c.in-Open.arbiter) c.self.inside.keeper c.set.new.self late (ap (λ (m : Memory). m.kept) c.set.ensures) starved)) c.answer.ensures.memory
