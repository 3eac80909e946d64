use Rattle.fen_text.proofs.FenLaws.{spells_one}
use Rattle.fen_text.proofs.laws.one_position.Goals as goal

pub returns : goal.returns
returns c = spells_one
