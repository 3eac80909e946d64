use Rattle.board_core.proofs.ComputedLists.{Decides-legal}
use Rattle.board_core.proofs.laws.legal_is_computed.Goals as goal

pub returns : goal.returns
returns c = λ p m. Decides-legal p m
