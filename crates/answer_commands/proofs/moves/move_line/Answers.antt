use Rattle.answer_commands.proofs.moves.move_line.Goals as goal

pub unreachable-requires : goal.unreachable-requires
unreachable-requires c = let some = c.in-None.ensures.legal.1 c.requires in absurd cc
