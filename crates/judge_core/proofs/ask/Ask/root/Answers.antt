use Rattle.judge_core.proofs.ask.Ask.root.Goals as goal

pub returns-in-Strict-clause-moves : goal.returns-in-Strict-clause-moves
returns-in-Strict-clause-moves c = rw c.in-Strict.is c.root.ensures.moves

pub returns-in-Determined-clause-moves : goal.returns-in-Determined-clause-moves
returns-in-Determined-clause-moves c = rw c.in-Determined.is c.determined_root.ensures.moves
