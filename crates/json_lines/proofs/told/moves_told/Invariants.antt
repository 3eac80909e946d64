use Rattle.std.proofs.Common.{◌≡◌, take}
use Rattle.json_lines.specs.Told.{AreMovesTold}
use Rattle.json_lines.proofs.told.moves_told.Given as goal

abbrev pub invariant-loop-m : goal.invariant-loop-m
invariant-loop-m l = AreMovesTold l.ask l.fn.set.tables l.position (take l.m-index l.moves) l.told.items × (l.set ≡ l.fn.set)
