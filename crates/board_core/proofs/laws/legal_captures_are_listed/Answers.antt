use Rattle.board_core.proofs.ComputedLists.{captures_listed, HasLegalCaptures-moves}
use Rattle.board_core.proofs.laws.legal_captures_are_listed.Goals as goal

pub returns : goal.returns
returns c = λ p moves. (captures_listed p moves, λ e. rw e (HasLegalCaptures-moves p))
