use Rattle.std.proofs.Common.{◌+◌, ◌*◌}
use Rattle.board_core.specs.Inside.Search.{HasListedBelow}
use Rattle.board_core.proofs.generation.add_between.Given as goal

abbrev pub invariant-loop-place : goal.invariant-loop-place
invariant-loop-place l = HasListedBelow l.p l.which (320 * l.way.from + 5 * l.way.to + l.place) l.moves.items
