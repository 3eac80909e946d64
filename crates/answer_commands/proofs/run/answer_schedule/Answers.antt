use Rattle.std.proofs.lemmas.Result.{IfOk-weaker}
use Rattle.answer_commands.proofs.run.answer_schedule.Goals as goal

pub returns-in-Ok : goal.returns-in-Ok
returns-in-Ok c = IfOk-weaker c.answer_game.result _ _ (λ a is. is c.args.task.now.delay c.in-Ok.ensures) c.answer_game.ensures
