use Rattle.system_io.proofs.AnswerLaws.{nothing_else}
use Rattle.system_io.proofs.laws.nothing_else_is_sent.Goals as goal

pub returns : goal.returns
returns c = nothing_else
