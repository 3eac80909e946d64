use Rattle.std.proofs.Common.{take}
use Rattle.host_commands.proofs.ImportLaws.{HasSeen}
use Rattle.host_commands.proofs.importing.look_at_all.Given as goal

abbrev pub invariant-loop-stamp : goal.invariant-loop-stamp
invariant-loop-stamp g l = HasSeen (g.S.System.outside l.system) l.folder l.store (take l.stamp-index l.stamps) l.fn.timeline l.timeline l.coming
