use Rattle.std.proofs.Common.{take}
use Rattle.game_store.specs.Shelves.{HasRead}
use Rattle.game_store.proofs.reading.load_all.Given as goal

abbrev pub invariant-loop-row : goal.invariant-loop-row
invariant-loop-row l = HasRead (take l.row-index l.rows) l.memory
