use Rattle.std.proofs.Common.{length}
use Rattle.move_notation.proofs.TurnLaws.{AreReadTo}
use Rattle.move_notation.proofs.words_in_turn.read_san_moves.Given as goal

abbrev pub invariant-loop-word : goal.invariant-loop-word
invariant-loop-word l = AreReadTo l.fn.start l.fn.text l.rest l.moves.items l.position

abbrev pub decreases-loop-word : goal.decreases-loop-word
decreases-loop-word l = length l.rest
