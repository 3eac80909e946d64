use Rattle.answer_commands.specs.Answers.{Does}
use Rattle.answer_commands.proofs.EndLaws.{ends_so}
use Rattle.answer_commands.proofs.answering.answer_bare.Goals as goal

pub returns : goal.returns
returns g c =
    let o = g.S.System.outside c.args.system.now in
    ends_so o _ _ _ (Does o c.args.task.now) c.answer_task-answered.result c.end.result c.answer_task-answered.ensures.made c.answer_task-answered.ensures.cause c.end.ensures
