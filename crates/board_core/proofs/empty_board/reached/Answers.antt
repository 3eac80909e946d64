use Rattle.std.proofs.Common.{arith}
use Rattle.board_core.proofs.EmptyBoard.{reached_bit}
use Rattle.board_core.proofs.empty_board.reached.Goals as goal

pub returns : goal.returns
returns c = λ men to b r.
    rw (c.from_bits.ensures, c.row_of.ensures.is, c.number.ensures.value) (reached_bit men c.args.side c.args.kind c.args.from to (omega arith) b r)
