use Rattle.std.proofs.Common.{◌<◌}
use Rattle.board_core.specs.declared.moves.Move.{Move}
use Rattle.board_core.specs.Moves.{promotion_place}
use Rattle.board_core.specs.Inside.Search.{IsLaterBetween}
use Rattle.board_core.proofs.capturing.capture_between.Given as goal

abbrev pub invariant-loop-place : goal.invariant-loop-place
invariant-loop-place l = (m : Move) → IsLaterBetween l.p l.start l.from l.to m → promotion_place m.promotion < l.place → ⊥
