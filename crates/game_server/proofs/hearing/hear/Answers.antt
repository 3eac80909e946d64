use Rattle.std.proofs.Common.{sym}
use Rattle.game_server.proofs.DatagramLaws.{heard_unread}
use Rattle.game_server.proofs.hearing.hear.Goals as goal

pub returns-in-Ok : goal.returns-in-Ok
returns-in-Ok g c = let p = c.answer.ensures.made in record { made = (p.0, p.1, p.2 c.args.bytes.now (sym c.in-Ok.ensures.computed)) }

pub returns-in-Err : goal.returns-in-Err
returns-in-Err g c = record {
  made = heard_unread (g.S.System.outside c.args.system.now) (g.G.Games.facts c.args.system.now) c.args.server.now c.args.bytes.now c.in-Err.fault _ c.args.timeline.now c.requires (sym c.in-Err.ensures.computed) c.line_alone.ensures.outputs c.line_alone.ensures.line;
}
