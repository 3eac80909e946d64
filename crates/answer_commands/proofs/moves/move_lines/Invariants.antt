use Rattle.std.proofs.Common.{◌≡◌, map, take}
use Rattle.answer_commands.specs.Moves.{move_line}
use Rattle.answer_parts.specs.Lines.{words_of}
use Rattle.answer_commands.proofs.moves.move_lines.Given as goal

abbrev pub invariant-loop-m : goal.invariant-loop-m
invariant-loop-m l = map words_of l.lines.items ≡ map (move_line l.fn.san l.fn.position) (take l.m-index l.m-items)
