use Rattle.std.proofs.Common.{length}
use Rattle.move_msg.proofs.WordsLaws.{HaveRead}
use Rattle.move_msg.proofs.record_bytes.read_words.Given as goal

abbrev pub invariant-loop-word : goal.invariant-loop-word
invariant-loop-word l = HaveRead l.bytes l.moves.items l.rest

abbrev pub decreases-loop-word : goal.decreases-loop-word
decreases-loop-word l = length l.rest
