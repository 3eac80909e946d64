use Rattle.std.proofs.Common.{length}
use Rattle.fen_text.specs.Cuts.{cut_at}
use Rattle.relay_world.proofs.Reading.{AreWaiting}
use Rattle.relay_world.proofs.schedule.read_events.Given as goal

abbrev pub invariant-loop-line : goal.invariant-loop-line
invariant-loop-line l = AreWaiting l.fn.text l.rest l.events.items

abbrev pub decreases-loop-line : goal.decreases-loop-line
decreases-loop-line l = length (cut_at 10 l.rest)
