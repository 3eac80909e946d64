use Rattle.board_core.proofs.Taken.{stands_within, taken_bare}
use Rattle.board_core.proofs.generation.attacked_without_king.Goals as goal

pub attacked_squares-requires : goal.attacked_squares-requires
attacked_squares-requires c = λ s b t. c.requires.enemy s b (taken_bare _ _ s c.args.v.now.king (stands_within _ _ _ _ c.requires.stands) (rw c.put.ensures at t))

pub returns : goal.returns
returns c = rw c.put.ensures at c.attacked_squares.ensures
