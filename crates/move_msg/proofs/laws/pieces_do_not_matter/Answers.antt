use Rattle.move_msg.proofs.StreamLaws.{pieces}
use Rattle.move_msg.proofs.laws.pieces_do_not_matter.Goals as goal

pub returns : goal.returns
returns c = pieces
