use Rattle.std.proofs.Common.{take}
use Rattle.timeline.specs.Outsides.{Adds, SendsToSame}
use Rattle.game_server.specs.Inside.Running.{AreSpelled, all_sent}
use Rattle.game_server.proofs.sending.send_replies.Given as goal

abbrev pub invariant-loop-one : goal.invariant-loop-one
invariant-loop-one g l = record {
  same : SendsToSame ((g.S.System.outside l.system).port l.fn.port) ((g.S.System.outside l.system).port l.port);
  spelled : AreSpelled (take l.one-index l.held);
  made : Adds (g.S.System.outside l.system) l.fn.timeline l.timeline (all_sent ((g.S.System.outside l.system).port l.fn.port).to (take l.one-index l.held));
}
