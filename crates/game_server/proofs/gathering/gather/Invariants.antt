use Rattle.std.specs.Prelude.{◌≡◌, ◌≤◌, ◌-◌, length}
use Rattle.timeline.specs.Outsides.{SendsToSame}
use Rattle.game_server.specs.Seats.{AreSeats}
use Rattle.game_server.proofs.GatherLaws.{HasHeard}
use Rattle.game_server.proofs.gathering.gather.Given as goal

abbrev pub invariant-loop-buffer : goal.invariant-loop-buffer
invariant-loop-buffer g l = record {
  has : HasHeard (g.S.System.outside l.system) (g.G.Games.facts l.system) l.fn.server l.server l.replies.held l.fn.timeline l.timeline;
  seats : AreSeats (g.S.System.outside l.system) (g.G.Games.facts l.system) l.server;
  same : SendsToSame ((g.S.System.outside l.system).port l.fn.port) ((g.S.System.outside l.system).port l.port);
  few : length l.replies.held ≤ l.most;
  most : l.replies.most ≡ l.fn.replies.most;
}

abbrev pub decreases-loop-buffer : goal.decreases-loop-buffer
decreases-loop-buffer g l = l.most - length l.replies.held
