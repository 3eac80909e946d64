use Rattle.std.proofs.Common.{refl}
use Rattle.game_server.proofs.HearLaws.{is_closed, stays_open}
use Rattle.game_server.proofs.hearing.answer_or_close.Goals as goal

pub returns-in-Stays : goal.returns-in-Stays
returns-in-Stays g c =
    let p = c.in-Stays.ensures.made in
    record { made = (p.0, p.1, stays_open (g.S.System.outside c.args.system.now) (g.G.Games.facts c.args.system.now) c.args.server.now c.answer_at.new.server c.args.message.now _ p.0 p.2 refl) }

pub returns-in-Closes : goal.returns-in-Closes
returns-in-Closes g c =
    let p = c.in-Closes.ensures.made in
    record { made = (p.0, p.1, is_closed (g.S.System.outside c.args.system.now) (g.G.Games.facts c.args.system.now) c.args.server.now c.answer_at.new.server c.args.message.now _ p.0 p.2 _ refl (rw c.stamp.ensures at c.pop-closed.ensures.entries)) }
