use Rattle.system_io.proofs.AnswerLaws.{follow}
use Rattle.system_io.proofs.laws.answers_follow.Goals as goal

pub returns : goal.returns
returns c = follow
