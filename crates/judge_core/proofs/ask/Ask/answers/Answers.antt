use Rattle.judge_core.proofs.ask.Ask.answers.Goals as goal

pub returns-in-Strict-clause-told : goal.returns-in-Strict-clause-told
returns-in-Strict-clause-told c = rw c.in-Strict.is c.answers.ensures.told

pub returns-in-Determined-clause-told : goal.returns-in-Determined-clause-told
returns-in-Determined-clause-told c = rw c.in-Determined.is c.determined_answers.ensures.told

pub returns-in-Strict-clause-memory : goal.returns-in-Strict-clause-memory
returns-in-Strict-clause-memory c = rw c.in-Strict.is c.answers.ensures.memory

pub returns-in-Determined-clause-memory : goal.returns-in-Determined-clause-memory
returns-in-Determined-clause-memory c = rw c.in-Determined.is c.determined_answers.ensures.memory
