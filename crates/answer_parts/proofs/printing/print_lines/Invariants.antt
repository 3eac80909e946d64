use Rattle.std.proofs.Common.{map, take}
use Rattle.answer_parts.specs.Printing.{printed}
use Rattle.answer_parts.specs.Lines.{words_of}
use Rattle.timeline.specs.Outsides.{Adds}
use Rattle.answer_parts.proofs.printing.print_lines.Given as goal

abbrev pub invariant-loop-line : goal.invariant-loop-line
invariant-loop-line g l = Adds (g.S.System.outside l.system) l.fn.timeline l.timeline (printed (map words_of (take l.line-index l.lines)))
