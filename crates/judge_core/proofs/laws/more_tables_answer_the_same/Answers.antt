use Rattle.judge_core.proofs.MoreTables.{more_answer_the_same}
use Rattle.judge_core.proofs.laws.more_tables_answer_the_same.Goals as goal

pub returns : goal.returns
returns c = more_answer_the_same
