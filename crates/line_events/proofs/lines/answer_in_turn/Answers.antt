use Rattle.std.proofs.Common.{refl, rules}
use Rattle.line_events.proofs.LineLaws.{more_same, most_failed, same_answers, told_all, told_cut, told_failed, told_most, told_next, told_none}
use Rattle.line_teller.specs.ToldLines.{stops_by}
use Rattle.line_events.proofs.lines.answer_in_turn.Goals as goal

pub loop-before-init : goal.loop-before-init
loop-before-init g c =
    let o = g.S.System.outside c.args.system.now in
    let a = g.A.LineAnswerer.answering c.args.answerer.now in
    record { told = told_none o c.args.timeline.now a c.args.progress (g.A.LineAnswerer.known c.args.answerer.now) (o.lines c.args.lines.now).left; stops = λ fault h. h; same = same_answers a; from = c.requires }

pub loop-before-preserved : goal.loop-before-preserved
loop-before-preserved g c =
    let o = g.S.System.outside c.args.system.now in
    let first = g.A.LineAnswerer.answering c.args.answerer.now in
    let later = g.A.LineAnswerer.answering c.loop-before.answerer in
    let begun = o.lines c.args.lines.now in
    let lines = o.lines c.loop-before.lines in
    let made = rw c.in-Ok-Told.field-0-is at c.in-Ok-Told.ensures.made in
    record {
      told = told_next o first later c.args.progress (g.A.LineAnswerer.known c.args.answerer.now) (g.A.LineAnswerer.known c.loop-before.answerer) (stops_by lines) (stops_by begun) begun.left lines.left c.loop-before.invariant.same c.loop-before.before c.loop-before.done _ _ _ _ _ _ c.in-Ok-Told.is_told _ refl c.loop-before.invariant.told made c.tell_progress.ensures;
      stops = λ fault h. c.loop-before.invariant.stops fault (c.in-Ok-Told.ensures.stops fault h);
      same = more_same first later _ c.loop-before.invariant.same c.in-Ok-Told.ensures.same;
      from = c.in-Ok-Told.ensures.still;
    }

pub returns-in-Ok-Ended-clause-made : goal.returns-in-Ok-Ended-clause-made
returns-in-Ok-Ended-clause-made g c =
    let o = g.S.System.outside c.args.system.now in
    let first = g.A.LineAnswerer.answering c.args.answerer.now in
    let later = g.A.LineAnswerer.answering c.loop-before.answerer in
    let begun = o.lines c.args.lines.now in
    let lines = o.lines c.loop-before.lines in
    let made = rw c.in-Ok-Ended.field-0-is at c.in-Ok-Ended.ensures.made in
    told_all o first later c.args.progress (g.A.LineAnswerer.known c.args.answerer.now) (g.A.LineAnswerer.known c.loop-before.answerer) (stops_by lines) (stops_by begun) begun.left lines.left c.loop-before.invariant.same c.loop-before.before c.loop-before.done _ _ _ _ _ c.loop-before.invariant.stops c.loop-before.invariant.told made

pub returns-in-Ok-Cut-clause-made : goal.returns-in-Ok-Cut-clause-made
returns-in-Ok-Cut-clause-made g c =
    let o = g.S.System.outside c.args.system.now in
    let first = g.A.LineAnswerer.answering c.args.answerer.now in
    let later = g.A.LineAnswerer.answering c.loop-before.answerer in
    let begun = o.lines c.args.lines.now in
    let lines = o.lines c.loop-before.lines in
    let made = rw c.in-Ok-Cut.field-0-is at c.in-Ok-Cut.ensures.made in
    told_cut o first later c.args.progress (g.A.LineAnswerer.known c.args.answerer.now) (g.A.LineAnswerer.known c.loop-before.answerer) (stops_by lines) (stops_by begun) begun.left lines.left c.loop-before.invariant.same c.loop-before.before c.loop-before.done _ _ _ _ _ c.loop-before.invariant.stops c.loop-before.invariant.told made

pub returns-in-Err-clause-made : goal.returns-in-Err-clause-made
returns-in-Err-clause-made g c =
    let o = g.S.System.outside c.args.system.now in
    let first = g.A.LineAnswerer.answering c.args.answerer.now in
    let later = g.A.LineAnswerer.answering c.loop-before.answerer in
    let begun = o.lines c.args.lines.now in
    let lines = o.lines c.loop-before.lines in
    told_failed o first later c.args.progress (g.A.LineAnswerer.known c.args.answerer.now) (g.A.LineAnswerer.known c.loop-before.answerer) (stops_by lines) (stops_by begun) begun.left lines.left c.loop-before.invariant.same c.loop-before.before c.loop-before.done _ _ _ _ _ c.loop-before.invariant.stops c.loop-before.invariant.told c.in-Err.fault c.in-Err.fault c.in-Err.ensures.made

pub returns-in-Ok-clause-made : goal.returns-in-Ok-clause-made
returns-in-Ok-clause-made g c =
    let o = g.S.System.outside c.args.system.now in
    let first = g.A.LineAnswerer.answering c.args.answerer.now in
    let later = g.A.LineAnswerer.answering c.loop-before.answerer in
    let begun = o.lines c.args.lines.now in
    let lines = o.lines c.loop-before.lines in
    told_most o first later c.args.progress (g.A.LineAnswerer.known c.args.answerer.now) (g.A.LineAnswerer.known c.loop-before.answerer) (stops_by lines) (stops_by begun) begun.left lines.left c.loop-before.invariant.same c.loop-before.before c.loop-before.done _ _ _ _ (search rules) c.loop-before.invariant.told c.in-Ok.ensures.made

pub returns-clause-made : goal.returns-clause-made
returns-clause-made g c =
    let o = g.S.System.outside c.args.system.now in
    let first = g.A.LineAnswerer.answering c.args.answerer.now in
    let later = g.A.LineAnswerer.answering c.loop-before.answerer in
    let begun = o.lines c.args.lines.now in
    let lines = o.lines c.loop-before.lines in
    most_failed o first later c.args.progress (g.A.LineAnswerer.known c.args.answerer.now) (g.A.LineAnswerer.known c.loop-before.answerer) (stops_by lines) (stops_by begun) begun.left lines.left c.loop-before.invariant.same c.loop-before.before c.loop-before.done _ _ _ c.in-Err-print_unread.fault c.in-Err-print_unread.fault (search rules) c.loop-before.invariant.told c.in-Err-print_unread.ensures.made
