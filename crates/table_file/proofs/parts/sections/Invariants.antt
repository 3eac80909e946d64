use Rattle.std.proofs.Common.{◌≡◌, drop}
use Rattle.table_file.specs.Reading.{each_at}
use Rattle.table_file.specs.Files.{section_at}
use Rattle.table_file.proofs.Loops.{with_front}
use Rattle.table_file.proofs.parts.sections.Given as goal

abbrev pub invariant-loop-i : goal.invariant-loop-i
invariant-loop-i l = with_front l.runs.items (each_at (section_at l.section) (drop l.i l.parts) l.rest) ≡ each_at (section_at l.section) l.parts l.bytes
