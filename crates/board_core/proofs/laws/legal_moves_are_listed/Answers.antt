use Rattle.board_core.proofs.ComputedLists.{listed, HasLegal-moves}
use Rattle.board_core.proofs.laws.legal_moves_are_listed.Goals as goal

pub returns : goal.returns
returns c = λ p moves. (listed p moves, λ e. rw e (HasLegal-moves p))
