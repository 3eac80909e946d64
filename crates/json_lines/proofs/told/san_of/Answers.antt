use Rattle.std.proofs.lemmas.Bool.{false≢true}
use Rattle.board_core.proofs.ComputedMoves.{position_legal}
use Rattle.json_lines.proofs.told.san_of.Goals as goal

pub unreachable-requires : goal.unreachable-requires
unreachable-requires c =
    let after = c.requires.0 in
    absurd (false≢true (c.in-None.ensures.legal.1 (after, position_legal c.args.position.now c.args.m.now after c.requires.1)))
