use Rattle.std.proofs.Common.{◌≡◌, length}
use Rattle.move_msg.specs.Streams.{nothing_fed}
use Rattle.answer_commands.proofs.ShowLaws.{HasShown}
use Rattle.answer_commands.proofs.show.show_messages.Given as goal

abbrev pub invariant-loop-message : goal.invariant-loop-message
invariant-loop-message g l = (l.feeder ≡ nothing_fed) × HasShown (g.S.System.outside l.system) l.stream l.rest l.fn.timeline l.timeline l.number

abbrev pub decreases-loop-message : goal.decreases-loop-message
decreases-loop-message g l = length l.rest
