use Rattle.std.proofs.Common.{ℕ, ◌<◌, get_or}
use Rattle.task_files.specs.FileNames.{IsNameBefore}
use Rattle.task_files.proofs.reading.place_of.Given as goal

abbrev pub invariant-loop-i : goal.invariant-loop-i
invariant-loop-i l = (k : ℕ) → k < l.i → IsNameBefore (get_or l.names k l.name) l.name
