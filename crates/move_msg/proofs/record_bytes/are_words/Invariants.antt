use Rattle.std.proofs.Common.{length}
use Rattle.move_msg.proofs.WordsLaws.{AreSameWords}
use Rattle.move_msg.proofs.record_bytes.are_words.Given as goal

abbrev pub invariant-loop-word : goal.invariant-loop-word
invariant-loop-word l = AreSameWords l.rest l.bytes

abbrev pub decreases-loop-word : goal.decreases-loop-word
decreases-loop-word l = length l.rest
