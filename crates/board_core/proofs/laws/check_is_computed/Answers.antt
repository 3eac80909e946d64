use Rattle.board_core.proofs.Computed.{Decides-in_check}
use Rattle.board_core.proofs.laws.check_is_computed.Goals as goal

pub returns : goal.returns
returns c = λ men side. Decides-in_check men side
