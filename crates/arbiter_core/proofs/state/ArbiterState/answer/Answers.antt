use Rattle.std.proofs.Common.{refl}
use Rattle.arbiter_core.specs.Resting.{awake}
use Rattle.arbiter_core.proofs.Hearing.{answers_as, sends, to_ack, to_fetch, to_move, to_verdict, wants_memory}
use Rattle.arbiter_core.proofs.state.ArbiterState.answer.Goals as goal

pub returns-in-Move : goal.returns-in-Move
returns-in-Move g c = record { same = c.take_move.ensures.same; wakes = c.take_move.ensures.wakes; answers = answers_as g.K.Keeper.facts _ _ _ _ _ (to_move (awake c.args.self.now c.args.tables.now) c.args.message.now _ _ _ _ c.in-Move.is) c.take_move.ensures.answers }

pub returns-in-Ack : goal.returns-in-Ack
returns-in-Ack g c = record { same = refl; wakes = c.requires.wakes; answers = sends g.K.Keeper.facts (awake c.args.self.now c.args.tables.now) c.args.keeper.now _ _ _ _ (awake c.args.self.now c.args.tables.now) (to_ack (awake c.args.self.now c.args.tables.now) c.args.message.now _ _ _ c.in-Ack.is) c.new.ensures.items refl }

pub returns-in-Verdict : goal.returns-in-Verdict
returns-in-Verdict g c = record { same = refl; wakes = c.requires.wakes; answers = sends g.K.Keeper.facts (awake c.args.self.now c.args.tables.now) c.args.keeper.now _ _ _ _ (awake c.args.self.now c.args.tables.now) (to_verdict (awake c.args.self.now c.args.tables.now) c.args.message.now _ _ _ _ c.in-Verdict.is) c.new-in-Verdict.ensures.items refl }

pub returns-in-Ok : goal.returns-in-Ok
returns-in-Ok g c = record { same = refl; wakes = c.requires.wakes; answers = sends g.K.Keeper.facts (awake c.args.self.now c.args.tables.now) c.args.keeper.now _ _ _ _ (awake c.args.self.now c.args.tables.now) (to_fetch (awake c.args.self.now c.args.tables.now) c.args.message.now _ _ _ _ c.in-Fetch.is) c.in-Ok.ensures.ok refl }

pub returns-in-Err : goal.returns-in-Err
returns-in-Err g c = record { same = refl; wakes = c.requires.wakes; answers = wants_memory g.K.Keeper.facts (awake c.args.self.now c.args.tables.now) c.args.keeper.now _ _ _ (to_fetch (awake c.args.self.now c.args.tables.now) c.args.message.now _ _ _ _ c.in-Fetch.is) (c.in-Err.ensures.inline refl) }
