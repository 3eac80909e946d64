use Rattle.std.proofs.Common.{length}
use Rattle.std.specs.List.{slice_split}
use Rattle.move_msg.specs.GameTexts.{is_gap}
use Rattle.move_msg.proofs.GameTextLaws.{AreRead}
use Rattle.move_msg.proofs.game_text.read_moves.Given as goal

abbrev pub invariant-loop-word : goal.invariant-loop-word
invariant-loop-word l = AreRead l.fn.text l.rest l.moves.items

abbrev pub decreases-loop-word : goal.decreases-loop-word
decreases-loop-word l = length (slice_split is_gap l.rest)
