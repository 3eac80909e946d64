use Rattle.std.proofs.Common.{◌∙◌, sym}
use Rattle.game_server.proofs.HearLaws.{none_there, not_opened, opened, was_open_now}
use Rattle.game_server.proofs.hearing.bring.Goals as goal

pub returns-then-contains : goal.returns-then-contains
returns-then-contains g c = record {
  made = was_open_now (g.S.System.outside c.args.system.now) (g.G.Games.facts c.args.system.now) c.args.server.now c.args.message.now c.args.timeline.now
      (rw c.stamp-stamp.ensures at (sym c.contains.ensures ∙ c.if-contains.true)) c.len-valid.ensures.valid.1 c.requires;
}

pub returns-in-Ok : goal.returns-in-Ok
returns-in-Ok g c = record {
  made = opened (g.S.System.outside c.args.system.now) (g.G.Games.facts c.args.system.now) c.args.server.now c.args.message.now
      (none_there _ (rw c.stamp-stamp.ensures at (sym c.contains.ensures ∙ c.if-contains.false)))
      c.open_for.new.shared c.in-Ok.seat c.args.timeline.now c.open_for.new.timeline c.in-Ok.ensures.made c.put_in.new.seats c.put_in.result (rw c.stamp-stamp.ensures at c.put_in.ensures.ok) c.put_in.ensures.err;
}

pub returns-in-Err : goal.returns-in-Err
returns-in-Err g c = record {
  made = not_opened (g.S.System.outside c.args.system.now) (g.G.Games.facts c.args.system.now) c.args.server.now c.args.message.now
      (none_there _ (rw c.stamp-stamp.ensures at (sym c.contains.ensures ∙ c.if-contains.false)))
      c.open_for.new.shared c.in-Err.why c.args.timeline.now c.open_for.new.timeline c.in-Err.ensures.made;
}

pub put_in-requires : goal.put_in-requires
put_in-requires g c = none_there _ (sym c.contains.ensures ∙ c.if-contains.false)
