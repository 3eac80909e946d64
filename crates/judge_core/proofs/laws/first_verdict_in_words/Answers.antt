use Rattle.judge_core.proofs.InWords.{first_in_words}
use Rattle.judge_core.proofs.laws.first_verdict_in_words.Goals as goal

pub returns : goal.returns
returns c = first_in_words
