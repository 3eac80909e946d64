use Rattle.std.proofs.Common.{◌≡◌, map, take}
use Rattle.std.specs.List.{All}
use Rattle.json_lines.specs.ApiTold.{IsPrecisionAfter, told_in}
use Rattle.json_lines.proofs.api_told.with_precision.Given as goal

abbrev pub invariant-loop-told : goal.invariant-loop-told
invariant-loop-told l = (map told_in l.found.items ≡ take l.told-index l.moves) × All (IsPrecisionAfter l.fn.set.tables) l.found.items × (l.set ≡ l.fn.set)
