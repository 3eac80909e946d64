use Rattle.std.proofs.Common.{◌≡◌, map, take}
use Rattle.json_lines.specs.Told.{played_in}
use Rattle.json_lines.proofs.told.played.Given as goal

abbrev pub invariant-loop-root : goal.invariant-loop-root
invariant-loop-root l = l.moves.items ≡ map played_in (take l.root-index l.roots)
