use Rattle.board_core.proofs.Listing.{Lists-every}
use Rattle.board_core.proofs.ComputedLists.{listed}
use Rattle.board_core.proofs.generation.legal.Goals as goal

pub returns : goal.returns
returns c =
    let all = Lists-every _ _ c.in_ok-moves.ensures.listed in
    record { legal = all; computed = listed _ _ all }
