use Rattle.judge_core.proofs.DeterminedMoves.{answers_are_one}
use Rattle.judge_core.proofs.laws.determined_answers_are_one.Goals as goal

pub returns : goal.returns
returns c = answers_are_one
