use Rattle.std.specs.Prelude.{◌≡◌, ◌+◌, ℕ}
use Rattle.timeline.specs.Outsides.{SendsToSame}
use Rattle.game_server.specs.Printing.{form_in}
use Rattle.game_server.specs.Seats.{AreSeats}
use Rattle.game_server.proofs.RunLaws.{HasServed}
use Rattle.game_server.proofs.running.serve.Given as goal

abbrev pub invariant-loop-left : goal.invariant-loop-left
invariant-loop-left g l = record {
  count : ℕ;
  of : count + l.left ≡ l.fn.n;
  served : HasServed (g.S.System.outside l.system) (g.G.Games.facts l.system) l.fn.at.replies.most l.fn.n (form_in l.fn.at.lines) ((g.S.System.outside l.system).port l.fn.port).to l.fn.at.server l.at.server l.fn.at.lines l.at.lines l.fn.timeline l.timeline count;
  most : l.at.replies.most ≡ l.fn.at.replies.most;
  same : SendsToSame ((g.S.System.outside l.system).port l.fn.port) ((g.S.System.outside l.system).port l.port);
  seats : AreSeats (g.S.System.outside l.system) (g.G.Games.facts l.system) l.at.server;
}

abbrev pub decreases-loop-left : goal.decreases-loop-left
decreases-loop-left g l = l.left
