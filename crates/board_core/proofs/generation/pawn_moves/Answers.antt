use Rattle.std.proofs.Common.{rules}
use Rattle.board_core.proofs.ComputedLists.{pawn_moves_listed, some_pawn_move}
use Rattle.board_core.proofs.generation.pawn_moves.Goals as goal

pub returns-clause-computed : goal.returns-clause-computed
returns-clause-computed c = pawn_moves_listed _ _ c.in_ok-moves.ensures.listed

pub returns-in_err-moves-clause-memory : goal.returns-in_err-moves-clause-memory
returns-in_err-moves-clause-memory c =
    let l = c.in_err-moves.ensures.memory in
    let some = some_pawn_move _ l.0 l.1 in search rules
