use Rattle.std.proofs.Common.{map, take, string_bytes}
use Rattle.task_files.specs.Outside.{AreWantedOf}
use Rattle.move_msg.specs.ToldBy.{told_by}
use Rattle.task_files.proofs.reading.wanted_names.Given as goal

abbrev pub invariant-loop-name : goal.invariant-loop-name
invariant-loop-name l = AreWantedOf (told_by l.manifest) (map string_bytes (take l.name-index l.names)) l.wanted.items
