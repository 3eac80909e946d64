use Rattle.arbiter_core.proofs.InWords.{reached_in_words}
use Rattle.arbiter_core.proofs.laws.reached_in_words.Goals as goal

pub returns : goal.returns
returns c = reached_in_words
