use Rattle.std.proofs.Common.{take}
use Rattle.host_commands.specs.Imports.{NotesAllLeft}
use Rattle.timeline.specs.Outsides.{AddsSome}
use Rattle.host_commands.proofs.store_opening.note_left.Given as goal

abbrev pub invariant-loop-stamp : goal.invariant-loop-stamp
invariant-loop-stamp g l = AddsSome (g.S.System.outside l.system) l.fn.timeline l.timeline (NotesAllLeft l.folder (take l.stamp-index l.left))
