use Rattle.std.proofs.Common.{◌∙◌, ◌+◌, ap, rules}
use Rattle.line_teller.specs.ToldLines.{stops_by}
use Rattle.game_teller.proofs.FollowLaws.{later_more}
use Rattle.game_teller.proofs.StepLaws.{counts_none, cut_at, ended_at, more_plies, not_begun, one_more, ruled_at, start_cut, start_open, start_ruled, stopped_at}
use Rattle.game_teller.proofs.following.follow_lines.Goals as goal

pub returns-in-Err-clause-made : goal.returns-in-Err-clause-made
returns-in-Err-clause-made g c =
    let o = g.S.System.outside c.args.system.now in
    let lines = o.lines c.args.lines.now in
    not_begun o c.args.game.now (g.J.PlyJudge.facts c.args.judge.now) (stops_by lines) lines.left (g.J.PlyJudge.facts c.begun.new.judge) _ _ _ c.in-Err.stop c.print_stop.result c.in-Err.ensures.made c.print_stop.ensures.made

pub returns-in-Ok-Some-clause-made : goal.returns-in-Ok-Some-clause-made
returns-in-Ok-Some-clause-made g c =
    let o = g.S.System.outside c.args.system.now in
    let lines = o.lines c.args.lines.now in
    start_ruled o c.args.game.now (g.J.PlyJudge.facts c.args.judge.now) (stops_by lines) lines.left (g.J.PlyJudge.facts c.begun.new.judge) c.in-Ok.course c.in-Ok.ensures.later _ _ _ c.in-Ok.ensures.made _ _ c.in-Ok-Some.field-0-is c.in-Ok-Some.ensures.made

pub returns-in-Err-print_standing-clause-made : goal.returns-in-Err-print_standing-clause-made
returns-in-Err-print_standing-clause-made g c =
    let o = g.S.System.outside c.args.system.now in
    let lines = o.lines c.args.lines.now in
    start_cut o c.args.game.now (g.J.PlyJudge.facts c.args.judge.now) (stops_by lines) lines.left (g.J.PlyJudge.facts c.begun.new.judge) c.in-Ok.course c.in-Ok.ensures.later _ _ _ c.in-Ok.ensures.made c.in-Err-print_standing.fault c.in-Err-print_standing.fault c.in-Err-print_standing.ensures.made

pub loop-number-init : goal.loop-number-init
loop-number-init g c =
    let o = g.S.System.outside c.args.system.now in
    let lines = o.lines c.args.lines.now in
    record {
      so_far = start_open o c.args.game.now (g.J.PlyJudge.facts c.args.judge.now) (stops_by lines) lines.left (g.J.PlyJudge.facts c.begun.new.judge) c.in-Ok.course c.in-Ok.ensures.later _ _ _ c.in-Ok.ensures.made _ c.in-Ok-None.field-0-is c.in-Ok-None.ensures.made;
      ply = c.in-Ok.ensures.made.2.ply;
      stops = λ fault h. h;
      later = c.in-Ok.ensures.later;
      from = c.in-Ok.ensures.still;
    }

pub loop-number-preserved : goal.loop-number-preserved
loop-number-preserved g c =
    let o = g.S.System.outside c.args.system.now in
    let begun = o.lines c.args.lines.now in
    let lines = o.lines c.loop-number.lines in
    let first = g.J.PlyJudge.facts c.args.judge.now in
    let was = g.J.PlyJudge.facts c.loop-number.judge in
    let now = g.J.PlyJudge.facts c.take_turn.new.judge in
    let old = c.loop-number.invariant in
    let e = c.in-Ok-Printed-None.ensures in
    let made = rw c.in-Ok-Printed-None.field-0-is at e.made in
    record {
      so_far = more_plies o c.args.game.now first (stops_by begun) begun.left was now (stops_by lines) old.stops lines.left (o.lines c.take_turn.new.lines).left c.loop-number.course c.take_turn.new.self old.later e.later _ _ _ old.so_far _ c.in-Ok-Printed-None.field-0-0-is made;
      ply = one_more was now c.loop-number.course c.take_turn.new.self (stops_by lines) lines.left (o.lines c.take_turn.new.lines).left _ _ made.2 ∙ ap (λ n. n + 1) old.ply;
      stops = λ fault h. old.stops fault (e.stops fault h);
      later = later_more first was now old.later e.later;
      from = e.still;
    }

pub returns-in-Ok-Printed-Some-clause-made : goal.returns-in-Ok-Printed-Some-clause-made
returns-in-Ok-Printed-Some-clause-made g c =
    let o = g.S.System.outside c.args.system.now in
    let begun = o.lines c.args.lines.now in
    let lines = o.lines c.loop-number.lines in
    let old = c.loop-number.invariant in
    let e = c.in-Ok-Printed-Some.ensures in
    ruled_at o c.args.game.now (g.J.PlyJudge.facts c.args.judge.now) (stops_by begun) begun.left (g.J.PlyJudge.facts c.loop-number.judge) (g.J.PlyJudge.facts c.take_turn.new.judge) (stops_by lines) old.stops lines.left (o.lines c.take_turn.new.lines).left c.loop-number.course c.take_turn.new.self old.later e.later _ _ _ old.so_far _ _ c.in-Ok-Printed-Some.field-0-0-is (rw c.in-Ok-Printed-Some.field-0-is at e.made)

pub returns-in-Ok-Ended-clause-made : goal.returns-in-Ok-Ended-clause-made
returns-in-Ok-Ended-clause-made g c =
    let o = g.S.System.outside c.args.system.now in
    let begun = o.lines c.args.lines.now in
    let lines = o.lines c.loop-number.lines in
    let old = c.loop-number.invariant in
    let e = c.in-Ok-Ended.ensures in
    ended_at o c.args.game.now (g.J.PlyJudge.facts c.args.judge.now) (stops_by begun) begun.left (g.J.PlyJudge.facts c.loop-number.judge) (g.J.PlyJudge.facts c.take_turn.new.judge) (stops_by lines) old.stops lines.left (o.lines c.take_turn.new.lines).left c.loop-number.course c.take_turn.new.self old.later e.later _ _ _ old.so_far (rw c.in-Ok-Ended.field-0-is at e.made)

pub returns-in-Ok-Stopped-clause-made : goal.returns-in-Ok-Stopped-clause-made
returns-in-Ok-Stopped-clause-made g c =
    let o = g.S.System.outside c.args.system.now in
    let begun = o.lines c.args.lines.now in
    let lines = o.lines c.loop-number.lines in
    let old = c.loop-number.invariant in
    let e = c.in-Ok-Stopped.ensures in
    stopped_at o c.args.game.now (g.J.PlyJudge.facts c.args.judge.now) (stops_by begun) begun.left (g.J.PlyJudge.facts c.loop-number.judge) (g.J.PlyJudge.facts c.take_turn.new.judge) (stops_by lines) old.stops lines.left (o.lines c.take_turn.new.lines).left c.loop-number.course c.take_turn.new.self old.later e.later _ _ _ old.so_far (rw c.in-Ok-Stopped.field-0-is at e.made)

pub returns-in-Err-take_turn-clause-made : goal.returns-in-Err-take_turn-clause-made
returns-in-Err-take_turn-clause-made g c =
    let o = g.S.System.outside c.args.system.now in
    let begun = o.lines c.args.lines.now in
    let lines = o.lines c.loop-number.lines in
    let old = c.loop-number.invariant in
    let e = c.in-Err-take_turn.ensures in
    cut_at o c.args.game.now (g.J.PlyJudge.facts c.args.judge.now) (stops_by begun) begun.left (g.J.PlyJudge.facts c.loop-number.judge) (g.J.PlyJudge.facts c.take_turn.new.judge) (stops_by lines) old.stops lines.left (o.lines c.take_turn.new.lines).left c.loop-number.course c.take_turn.new.self old.later e.later _ _ _ old.so_far c.in-Err-take_turn.fault c.in-Err-take_turn.fault e.made

pub returns-clause-made : goal.returns-clause-made
returns-clause-made g c =
    let o = g.S.System.outside c.args.system.now in
    let begun = o.lines c.args.lines.now in
    let lines = o.lines c.loop-number.lines in
    let old = c.loop-number.invariant in
    counts_none o c.args.game.now (g.J.PlyJudge.facts c.args.judge.now) (stops_by begun) begun.left (g.J.PlyJudge.facts c.loop-number.judge) lines.left c.loop-number.course old.later _ _ _ c.print_stop-2.result (rw old.ply (search rules)) old.so_far c.print_stop-2.ensures.made
