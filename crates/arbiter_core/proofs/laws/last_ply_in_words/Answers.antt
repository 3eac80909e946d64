use Rattle.arbiter_core.proofs.InWords.{last_ply_in_words}
use Rattle.arbiter_core.proofs.laws.last_ply_in_words.Goals as goal

pub returns : goal.returns
returns c = last_ply_in_words
