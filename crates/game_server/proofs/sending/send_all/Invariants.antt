use Rattle.std.proofs.Common.{take}
use Rattle.timeline.specs.Outsides.{Adds, HeardNothing}
use Rattle.game_server.specs.Sending.{AllSpelled, address_of, sent}
use Rattle.game_server.proofs.sending.send_all.Given as goal

abbrev pub invariant-loop-message : goal.invariant-loop-message
invariant-loop-message g l = record {
  same : HeardNothing ((g.S.System.outside l.system).port l.fn.port) ((g.S.System.outside l.system).port l.port);
  spelled : AllSpelled (take l.message-index l.messages);
  made : Adds (g.S.System.outside l.system) l.fn.timeline l.timeline (sent (address_of ((g.S.System.outside l.system).port l.fn.port)) (take l.message-index l.messages));
}
