use Rattle.std.proofs.Common.{◌≡◌, take}
use Rattle.move_msg.specs.declared.arbiter_id.Sender.TheVariants.{Source}
use Rattle.arbiter_core.specs.Answering.{sent_by}
use Rattle.relay_world.proofs.running.sent.Given as goal

abbrev pub invariant-loop-i : goal.invariant-loop-i
invariant-loop-i l = l.log.items ≡ sent_by l.stamp Source 0 (take l.i l.moves)
