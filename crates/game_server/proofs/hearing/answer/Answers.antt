use Rattle.std.proofs.Common.{List, ℕ, ◌++◌, ap, ◌∙◌}
use Rattle.arbiter_server.specs.declared.line.Line.TheVariants as line
use Rattle.timeline.proofs.EventLaws.{adds_more}
use Rattle.game_server.proofs.DatagramLaws.{brought_open, brought_seats, heard_answered, heard_unopened}
use Rattle.game_server.proofs.hearing.answer.Goals as goal

pub returns-in-Ok : goal.returns-in-Ok
returns-in-Ok g c =
    let o = g.S.System.outside c.args.system.now in
    let p = c.in-Ok.ensures.made in
    let q = c.answer_or_close.ensures.made in
    record {
      made = (
        p.0 ++ q.0,
        adds_more o c.args.timeline.now c.bring.new.timeline c.answer_or_close.new.timeline p.0 q.0 p.1 q.1,
        heard_answered o (g.G.Games.facts c.args.system.now) c.args.server.now c.args.message.now c.requires c.bring.new.server _ _ p.0 q.0 p.2 q.2,
      );
    }

pub returns-in-Err : goal.returns-in-Err
returns-in-Err g c =
    let o = g.S.System.outside c.args.system.now in
    let p = c.in-Err.ensures.made in
    record { made = (p.0, p.1, heard_unopened o (g.G.Games.facts c.args.system.now) c.args.server.now c.args.message.now c.requires _ c.in-Err.why _ p.0 p.2 c.line_alone.ensures.outputs (c.line_alone.ensures.line ∙ ap (λ (s : List ℕ). line.Unopened s c.in-Err.why) c.stamp.ensures)) }

pub answer_or_close-requires-clause-seats : goal.answer_or_close-requires-clause-seats
answer_or_close-requires-clause-seats g c = brought_seats (g.S.System.outside c.args.system.now) (g.G.Games.facts c.args.system.now) c.args.server.now c.args.message.now c.requires c.bring.new.server c.in-Ok.ensures.made.0 c.in-Ok.ensures.made.2

pub answer_or_close-requires-clause-open : goal.answer_or_close-requires-clause-open
answer_or_close-requires-clause-open g c = brought_open (g.S.System.outside c.args.system.now) (g.G.Games.facts c.args.system.now) c.args.server.now c.args.message.now c.requires c.bring.new.server c.in-Ok.ensures.made.0 c.in-Ok.ensures.made.2
