use Rattle.std.proofs.Common.{◌≡◌, ◌+◌, ◌-◌, min, ◌∙◌, ap, arith, refl}
use Rattle.std.specs.Prelude.{Err, Ok, []}
use Rattle.game_server.specs.Printing.{form_in}
use Rattle.game_server.proofs.EarnLaws.{run_earned}
use Rattle.game_server.proofs.Ports.{same_then, sends_to_same}
use Rattle.game_server.proofs.RunLaws.{form_after, none_served, one_served, served_all, served_cut, served_stops}
use Rattle.game_server.proofs.running.serve.Goals as goal

pub loop-left-init : goal.loop-left-init
loop-left-init g c = record {
  count = 0;
  of = omega arith;
  served = none_served (g.S.System.outside c.args.system.now) (g.G.Games.facts c.args.system.now) c.args.at.now.replies.most c.args.n (form_in c.args.at.now.lines) _ c.args.at.now.server c.args.at.now.lines c.args.timeline.now c.requires.none refl;
  most = refl;
  same = sends_to_same _;
  seats = c.requires.seats;
}

pub loop-left-preserved : goal.loop-left-preserved
loop-left-preserved g c =
    let inv = c.loop-left.invariant in
    let most = inv.most in
    let is = c.min-most.ensures in
    let of = inv.of in
    let limit_is : c.min-most.result ≡ min c.args.at.now.replies.most (c.args.n - inv.count) = omega (arith, is, of, most) in
    let one = one_served (g.S.System.outside c.args.system.now) (g.G.Games.facts c.args.system.now) c.args.at.now.replies.most c.args.n (form_in c.args.at.now.lines) c.args.at.now c.loop-left.at c.round.new.at c.args.port.now c.loop-left.port c.args.timeline.now c.loop-left.timeline c.round.new.timeline inv.count c.min-most.result
    inv.same.to limit_is inv.served c.round.result c.in-Ok-GoesOn.came (c.in-Ok-GoesOn.is ∙ ap Ok c.in-Ok-GoesOn.field-0-is) c.round.ensures.made in
    let few = one.1 in
    record {
      count = inv.count + c.in-Ok-GoesOn.came;
      of = omega (arith, is, of, few);
      served = one.0;
      most = c.round.ensures.most ∙ inv.most;
      same = same_then _ _ _ inv.same c.round.ensures.same;
      seats = c.round.ensures.seats;
    }

pub returns-in-Ok-Stops-clause-run : goal.returns-in-Ok-Stops-clause-run
returns-in-Ok-Stops-clause-run g c =
    let inv = c.loop-left.invariant in
    let most = inv.most in
    let is = c.min-most.ensures in
    let of = inv.of in
    let limit_is : c.min-most.result ≡ min c.args.at.now.replies.most (c.args.n - inv.count) = omega (arith, is, of, most) in
    let test = c.loop-left-test.true in
    served_stops (g.S.System.outside c.args.system.now) (g.G.Games.facts c.args.system.now) c.args.at.now.replies.most c.args.n (form_in c.args.at.now.lines) c.args.at.now c.loop-left.at c.round.new.at c.args.port.now c.loop-left.port c.args.timeline.now c.loop-left.timeline c.round.new.timeline inv.count c.min-most.result
    inv.same.to limit_is inv.served c.round.result (omega (arith, of, test)) (c.in-Ok-Stops.is ∙ ap Ok c.in-Ok-Stops.field-0-is) c.round.ensures.made

pub returns-in-Ok-Stops-clause-earned : goal.returns-in-Ok-Stops-clause-earned
returns-in-Ok-Stops-clause-earned g c =
    run_earned (g.S.System.outside c.args.system.now) (g.G.Games.facts c.args.system.now) ((g.S.System.outside c.args.system.now).port c.args.port.now).to c.args.at.now.replies.most (form_in c.args.at.now.lines) [] c.args.n c.args.at.now.server c.round.new.at.server c.args.timeline.now c.round.new.timeline (Ok 1)
    (returns-in-Ok-Stops-clause-run g c)

pub returns-in-Err-clause-run : goal.returns-in-Err-clause-run
returns-in-Err-clause-run g c =
    let inv = c.loop-left.invariant in
    let most = inv.most in
    let is = c.min-most.ensures in
    let of = inv.of in
    let limit_is : c.min-most.result ≡ min c.args.at.now.replies.most (c.args.n - inv.count) = omega (arith, is, of, most) in
    let test = c.loop-left-test.true in
    served_cut (g.S.System.outside c.args.system.now) (g.G.Games.facts c.args.system.now) c.args.at.now.replies.most c.args.n (form_in c.args.at.now.lines) c.args.at.now c.loop-left.at c.round.new.at c.args.port.now c.loop-left.port c.args.timeline.now c.loop-left.timeline c.round.new.timeline inv.count c.min-most.result
    inv.same.to limit_is inv.served c.round.result c.in-Err.fault (omega (arith, of, test)) c.in-Err.is c.round.ensures.made

pub returns-in-Err-clause-earned : goal.returns-in-Err-clause-earned
returns-in-Err-clause-earned g c =
    run_earned (g.S.System.outside c.args.system.now) (g.G.Games.facts c.args.system.now) ((g.S.System.outside c.args.system.now).port c.args.port.now).to c.args.at.now.replies.most (form_in c.args.at.now.lines) [] c.args.n c.args.at.now.server c.round.new.at.server c.args.timeline.now c.round.new.timeline (Err c.in-Err.fault)
    (returns-in-Err-clause-run g c)

pub returns-clause-run : goal.returns-clause-run
returns-clause-run g c =
    let inv = c.loop-left.invariant in
    let of = inv.of in
    let test = c.loop-left-test.false in
    served_all (g.S.System.outside c.args.system.now) (g.G.Games.facts c.args.system.now) c.args.at.now.replies.most c.args.n (form_in c.args.at.now.lines) c.args.at.now c.loop-left.at c.loop-left.at c.args.port.now c.loop-left.port c.args.timeline.now c.loop-left.timeline c.loop-left.timeline inv.count 0
    inv.same.to (omega (arith, of, test)) inv.served (omega (arith, of, test))

pub returns-clause-earned : goal.returns-clause-earned
returns-clause-earned g c =
    run_earned (g.S.System.outside c.args.system.now) (g.G.Games.facts c.args.system.now) ((g.S.System.outside c.args.system.now).port c.args.port.now).to c.args.at.now.replies.most (form_in c.args.at.now.lines) [] c.args.n c.args.at.now.server c.loop-left.at.server c.args.timeline.now c.loop-left.timeline (Ok 0)
    (returns-clause-run g c)

pub returns-in-Ok-Stops-clause-same : goal.returns-in-Ok-Stops-clause-same
returns-in-Ok-Stops-clause-same g c = same_then _ _ _ c.loop-left.invariant.same c.round.ensures.same

pub returns-in-Ok-Stops-clause-most : goal.returns-in-Ok-Stops-clause-most
returns-in-Ok-Stops-clause-most g c = c.round.ensures.most ∙ c.loop-left.invariant.most

pub returns-in-Err-clause-same : goal.returns-in-Err-clause-same
returns-in-Err-clause-same g c = same_then _ _ _ c.loop-left.invariant.same c.round.ensures.same

pub returns-in-Err-clause-most : goal.returns-in-Err-clause-most
returns-in-Err-clause-most g c = c.round.ensures.most ∙ c.loop-left.invariant.most

pub returns-clause-same : goal.returns-clause-same
returns-clause-same g c = c.loop-left.invariant.same

pub returns-clause-most : goal.returns-clause-most
returns-clause-most g c = c.loop-left.invariant.most

pub returns-in-Ok-Stops-clause-form : goal.returns-in-Ok-Stops-clause-form
returns-in-Ok-Stops-clause-form g c = form_after (g.S.System.outside c.args.system.now) (g.G.Games.facts c.args.system.now) _ _ _ _ _ _ c.loop-left.at c.round.new.at _ _ _ _ _ c.loop-left.invariant.served c.round.ensures.made

pub returns-in-Err-clause-form : goal.returns-in-Err-clause-form
returns-in-Err-clause-form g c = form_after (g.S.System.outside c.args.system.now) (g.G.Games.facts c.args.system.now) _ _ _ _ _ _ c.loop-left.at c.round.new.at _ _ _ _ _ c.loop-left.invariant.served c.round.ensures.made

pub returns-clause-form : goal.returns-clause-form
returns-clause-form g c = c.loop-left.invariant.served.same
