use Rattle.std.proofs.Common.{length}
use Rattle.move_msg.proofs.game_text.+next_word.Given as goal

abbrev pub decreases-next_word : goal.decreases-next_word
decreases-next_word l = length l.text.now
