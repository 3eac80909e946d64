use Rattle.pgn_games.proofs.UsualLaws.{usual, usual_position, usual_spelled}
use Rattle.pgn_games.proofs.usual.usual_position.Goals as goal

pub unreachable-requires : goal.unreachable-requires
unreachable-requires c =
    let ok = c.read.ensures.written usual (usual_position c.check_is_computed.ensures) usual_spelled in
    absurd (cc)
