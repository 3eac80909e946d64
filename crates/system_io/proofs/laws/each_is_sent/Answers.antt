use Rattle.system_io.proofs.AnswerLaws.{each}
use Rattle.system_io.proofs.laws.each_is_sent.Goals as goal

pub returns : goal.returns
returns c = each
