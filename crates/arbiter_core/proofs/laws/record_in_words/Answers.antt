use Rattle.arbiter_core.proofs.InWords.{record_in_words}
use Rattle.arbiter_core.proofs.laws.record_in_words.Goals as goal

pub returns : goal.returns
returns c = record_in_words
