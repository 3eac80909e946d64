use Rattle.std.proofs.Common.{take}
use Rattle.task_files.proofs.TurnLaws.{HasLooked}
use Rattle.task_files.proofs.table_looks.look_at_each.Given as goal

abbrev pub invariant-loop-name : goal.invariant-loop-name
invariant-loop-name g l = HasLooked (g.S.System.outside l.system) l.folder l.progress g.L.TableRequest.made_of (take l.name-index l.names) l.count l.looks.items l.fn.timeline l.timeline
