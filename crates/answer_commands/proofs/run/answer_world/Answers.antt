use Rattle.answer_commands.proofs.run.answer_world.Goals as goal

pub returns-in-Ok-clause-lines : goal.returns-in-Ok-clause-lines
returns-in-Ok-clause-lines c = λ game last h. c.in-Ok.ensures game last h
