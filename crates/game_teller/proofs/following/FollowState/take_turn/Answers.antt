use Rattle.line_events.proofs.LineLaws.{unread_so}
use Rattle.line_teller.specs.ToldLines.{stops_by}
use Rattle.game_teller.proofs.FollowLaws.{later_same}
use Rattle.game_teller.proofs.StepLaws.{next_cut, next_ended, next_read, next_unread}
use Rattle.game_teller.proofs.following.FollowState.take_turn.Goals as goal

pub returns-then-is_line-clause-made : goal.returns-then-is_line-clause-made
returns-then-is_line-clause-made g c =
    let o = g.S.System.outside c.args.system.now in
    let lines = o.lines c.args.lines.now in
    let made = rw c.deref.ensures.value at c.print_turn.ensures.made in
    next_read o (g.J.PlyJudge.facts c.args.judge.now) (g.J.PlyJudge.facts c.print_turn.new.judge) c.args.self.now c.print_turn.new.self (stops_by lines) lines.left (o.lines c.next_line.new.lines).left _ _ _ _ lines.ahead c.in-Ok.is_line c.print_turn.result c.if-is_line.true c.in-Ok.ensures.read c.in-Ok.ensures.made made

pub returns-else-is_line-clause-made : goal.returns-else-is_line-clause-made
returns-else-is_line-clause-made g c =
    let o = g.S.System.outside c.args.system.now in
    let lines = o.lines c.args.lines.now in
    next_ended o (g.J.PlyJudge.facts c.args.judge.now) (g.J.PlyJudge.facts c.args.judge.now) c.args.self.now c.args.self.now (stops_by lines) lines.left (o.lines c.next_line.new.lines).left _ _ _ lines.ahead c.in-Ok.is_line c.if-is_line.false c.in-Ok.ensures.read c.in-Ok.ensures.made

pub returns-else-is_line-clause-later : goal.returns-else-is_line-clause-later
returns-else-is_line-clause-later g c = later_same (g.J.PlyJudge.facts c.args.judge.now)

pub returns-in-Ok-print_stop-clause-made : goal.returns-in-Ok-print_stop-clause-made
returns-in-Ok-print_stop-clause-made g c =
    let o = g.S.System.outside c.args.system.now in
    let lines = o.lines c.args.lines.now in
    let stops = unread_so lines c.next_line.result c.in-Err.fault c.in-Err.is c.next_line.ensures.cause c.next_line.ensures.memory in
    let made = rw c.stop_by.ensures at c.in-Ok-print_stop.ensures.made in
    next_unread o (g.J.PlyJudge.facts c.args.judge.now) (g.J.PlyJudge.facts c.args.judge.now) c.args.self.now c.args.self.now (stops_by lines) lines.left (o.lines c.next_line.new.lines).left _ _ _ c.in-Err.fault _ _ stops c.in-Err.ensures.made made

pub returns-in-Ok-print_stop-clause-later : goal.returns-in-Ok-print_stop-clause-later
returns-in-Ok-print_stop-clause-later g c = later_same (g.J.PlyJudge.facts c.args.judge.now)

pub returns-in-Err-print_stop-clause-made : goal.returns-in-Err-print_stop-clause-made
returns-in-Err-print_stop-clause-made g c =
    let o = g.S.System.outside c.args.system.now in
    let lines = o.lines c.args.lines.now in
    let stops = unread_so lines c.next_line.result c.in-Err.fault c.in-Err.is c.next_line.ensures.cause c.next_line.ensures.memory in
    let made = rw c.stop_by.ensures at c.in-Err-print_stop.ensures.made in
    next_cut o (g.J.PlyJudge.facts c.args.judge.now) (g.J.PlyJudge.facts c.args.judge.now) c.args.self.now c.args.self.now (stops_by lines) lines.left (o.lines c.next_line.new.lines).left _ _ _ c.in-Err.fault _ c.in-Err-print_stop.fault c.in-Err-print_stop.fault stops c.in-Err.ensures.made made

pub returns-in-Err-print_stop-clause-later : goal.returns-in-Err-print_stop-clause-later
returns-in-Err-print_stop-clause-later g c = later_same (g.J.PlyJudge.facts c.args.judge.now)
