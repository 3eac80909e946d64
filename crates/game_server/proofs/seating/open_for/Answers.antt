use Rattle.std.proofs.Common.{refl, sym, ◌∙◌}
use Rattle.game_server.proofs.Composing.{found_none, found_then, opens_none}
use Rattle.game_server.proofs.seating.open_for.Goals as goal

pub returns-in-Ok : goal.returns-in-Ok
returns-in-Ok g c = record {
  made = found_then (g.S.System.outside c.args.system.now) (g.G.Games.facts c.args.system.now) c.args.shared.now _ c.args.message.now _ c.in-Ok.game c.args.timeline.now c.found.new.timeline c.open_found.new.timeline (sym c.opens_game.ensures ∙ c.if-not-opens_game.false) (rw c.stamp-stamp.ensures at c.in-Ok.ensures.made) (rw c.stamp-stamp.ensures at c.open_found.ensures.made);
}

pub returns-in-Err : goal.returns-in-Err
returns-in-Err g c = record {
  made = found_none (g.S.System.outside c.args.system.now) (g.G.Games.facts c.args.system.now) c.args.shared.now _ c.args.message.now _ c.in-Err.why c.args.timeline.now c.found.new.timeline refl refl (sym c.opens_game.ensures ∙ c.if-not-opens_game.false) (rw c.stamp-stamp.ensures at c.in-Err.ensures.made);
}

pub returns-then-not-opens_game : goal.returns-then-not-opens_game
returns-then-not-opens_game g c = record {
  made = opens_none (g.S.System.outside c.args.system.now) (g.G.Games.facts c.args.system.now) c.args.shared.now _ c.args.message.now _ c.args.timeline.now refl refl (sym c.if-not-opens_game.ensures);
}

pub open_found-requires : goal.open_found-requires
open_found-requires g c = c.in-Ok.ensures.made.2.is.1
