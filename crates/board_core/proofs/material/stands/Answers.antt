use Rattle.std.proofs.Common.{refl, arith}
use Rattle.board_core.specs.Inside.Material.{test_of}
use Rattle.board_core.proofs.Squares.{all_squares, one_more}
use Rattle.board_core.proofs.material.stands.Goals as goal

pub loop-number-preserved : goal.loop-number-preserved
loop-number-preserved c =
    one_more (test_of c.args.wanted) c.args.position.now.men c.loop-number.number c.loop-number.found c.is_wanted_man-found.result c.loop-number.invariant
    (rw (c.is_wanted_man-found.ensures, c.piece_at.ensures, c.at-square.ensures) refl)

pub returns : goal.returns
returns c = all_squares (test_of c.args.wanted) c.args.position.now.men c.loop-number.number c.loop-number.found c.loop-number.invariant (omega (arith, c.loop-number-test.false, c.loop-number.auto.number-end))
