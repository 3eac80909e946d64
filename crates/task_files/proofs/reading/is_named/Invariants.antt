use Rattle.std.proofs.Common.{map, take}
use Rattle.std.specs.List.{Contains}
use Rattle.move_msg.specs.Manifests.{entry_of}
use Rattle.task_files.proofs.reading.is_named.Given as goal

abbrev pub invariant-loop-line : goal.invariant-loop-line
invariant-loop-line l = Contains (map (λ e. e.name) (map entry_of (take l.line-index l.lines))) l.name → ⊥
