use Rattle.std.proofs.Common.{◌≡◌, false, Result, Ok, ap, sym, ◌∙◌}
use Rattle.move_msg.specs.declared.message.Message.{Message}
use Rattle.move_msg.specs.declared.message.MessageFault.{MessageFault}
use Rattle.arbiter_core.specs.declared.fault.DeliverFault.TheVariants.{Down, NotAMessage}
use Rattle.arbiter_core.specs.Delivers.{answer_at, heard, in_game}
use Rattle.arbiter_core.specs.Resting.{awake}
use Rattle.arbiter_core.proofs.Hearing.{answers_as, by_bytes, hears_down, refuses, to_fault}
use Rattle.arbiter_core.proofs.arbiter.Arbiter.deliver.Goals as goal

pub returns-in-Ok-clause-delivered : goal.returns-in-Ok-clause-delivered
returns-in-Ok-clause-delivered g c =
    let v = awake c.self.inside.state c.self.inside.set in
    rw (sym c.self.view_is, c.deliver.ensures.same)
    (answers_as g.K.Keeper.facts _ _ _ _ _ (by_bytes v c.args.bytes.now (Ok c.in-Ok.message) (sym c.in-Ok.ensures.computed)) c.deliver.ensures.answers)

pub returns-then-is_down-clause-delivered : goal.returns-then-is_down-clause-delivered
returns-then-is_down-clause-delivered g c =
    let v = awake c.self.inside.state c.self.inside.set in
    rw (sym c.self.view_is)
    (refuses g.K.Keeper.facts v c.args.keeper.now (answer_at v c.args.bytes.now) Down (hears_down v (heard v.me.stamp c.args.bytes.now) (sym c.is_down.ensures ∙ c.if-is_down.true)))

pub returns-else-is_down-clause-delivered : goal.returns-else-is_down-clause-delivered
returns-else-is_down-clause-delivered g c =
    let v = awake c.self.inside.state c.self.inside.set in
    let up : v.is_down ≡ false = sym c.is_down.ensures ∙ c.if-is_down.false in
    rw (sym c.self.view_is)
    (refuses g.K.Keeper.facts v c.args.keeper.now (answer_at v c.args.bytes.now) (NotAMessage c.in-Err.fault)
    (to_fault v (NotAMessage c.in-Err.fault) (heard v.me.stamp c.args.bytes.now) up (ap (λ (h : Result Message MessageFault). in_game v.me.stamp h) c.in-Err.ensures.computed)))
