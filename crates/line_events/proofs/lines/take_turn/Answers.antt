use Rattle.line_events.proofs.LineLaws.{same_answers, turn_ended, turn_read, turn_stuck, turn_unread, unread_so}
use Rattle.line_teller.specs.ToldLines.{stops_by}
use Rattle.timeline.specs.Events.{has_line_feed}
use Rattle.line_events.proofs.lines.take_turn.Goals as goal

pub returns-in-Err-clause-made : goal.returns-in-Err-clause-made
returns-in-Err-clause-made g c =
    let o = g.S.System.outside c.args.system.now in
    let lines = o.lines c.args.lines.now in
    turn_stuck o (g.A.LineAnswerer.answering c.args.answerer.now) _ _ (stops_by lines) lines.left lines.left _ _ (has_line_feed lines.ahead) c.in-Err.fault c.in-Err.fault c.in-Err.ensures.made

pub returns-in-Err-clause-same : goal.returns-in-Err-clause-same
returns-in-Err-clause-same g c = same_answers (g.A.LineAnswerer.answering c.args.answerer.now)

pub returns-then-is_line-clause-made : goal.returns-then-is_line-clause-made
returns-then-is_line-clause-made g c =
    let o = g.S.System.outside c.args.system.now in
    let lines = o.lines c.args.lines.now in
    let answered = rw c.deref.ensures.value at c.answer_read.ensures.made in
    turn_read o (g.A.LineAnswerer.answering c.args.answerer.now) _ _ (stops_by lines) lines.left _ _ _ _ _ _ lines.ahead c.in-Ok-next_line.is_line c.answer_read.result c.if-is_line.true c.in-Ok-next_line.ensures.read c.in-Ok.ensures.made c.in-Ok-next_line.ensures.made answered

pub returns-else-is_line-clause-made : goal.returns-else-is_line-clause-made
returns-else-is_line-clause-made g c =
    let o = g.S.System.outside c.args.system.now in
    let lines = o.lines c.args.lines.now in
    turn_ended o (g.A.LineAnswerer.answering c.args.answerer.now) _ _ (stops_by lines) lines.left _ _ _ _ _ lines.ahead c.in-Ok-next_line.is_line c.if-is_line.false c.in-Ok-next_line.ensures.read c.in-Ok.ensures.made c.in-Ok-next_line.ensures.made

pub returns-else-is_line-clause-same : goal.returns-else-is_line-clause-same
returns-else-is_line-clause-same g c = same_answers (g.A.LineAnswerer.answering c.args.answerer.now)

pub returns-in-Err-next_line-clause-made : goal.returns-in-Err-next_line-clause-made
returns-in-Err-next_line-clause-made g c =
    let o = g.S.System.outside c.args.system.now in
    let lines = o.lines c.args.lines.now in
    let fault = c.in-Err-next_line.fault in
    let stops = unread_so lines c.next_line.result fault c.in-Err-next_line.is c.next_line.ensures.cause c.next_line.ensures.memory in
    turn_unread o (g.A.LineAnswerer.answering c.args.answerer.now) _ _ (stops_by lines) lines.left _ _ _ _ _ fault lines.ahead c.print_unread.result stops c.in-Ok.ensures.made c.in-Err-next_line.ensures.made c.print_unread.ensures.made

pub returns-in-Err-next_line-clause-same : goal.returns-in-Err-next_line-clause-same
returns-in-Err-next_line-clause-same g c = same_answers (g.A.LineAnswerer.answering c.args.answerer.now)
