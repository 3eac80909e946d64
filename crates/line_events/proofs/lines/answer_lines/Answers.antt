use Rattle.line_events.proofs.LineLaws.{input_done, input_failed, left_of, no_lines}
use Rattle.line_events.proofs.lines.answer_lines.Goals as goal

pub returns-in-Err-clause-made : goal.returns-in-Err-clause-made
returns-in-Err-clause-made g c =
    let o = g.S.System.outside c.args.system.now in
    no_lines o o.input (g.A.LineAnswerer.answering c.args.answerer.now) (g.A.LineAnswerer.known c.args.answerer.now) c.args.progress _ _ _ c.print_unread.result c.in-Err.ensures.memory c.in-Err.ensures.made c.print_unread.ensures.made

pub returns-in-Ok-answer_in_turn-clause-made : goal.returns-in-Ok-answer_in_turn-clause-made
returns-in-Ok-answer_in_turn-clause-made g c =
    let o = g.S.System.outside c.args.system.now in
    let lines = o.lines c.in-Ok.lines in
    let left = left_of o o.input lines c.in-Ok.ensures.given c.in-Ok.ensures.known c.in-Ok.ensures.cause in
    input_done o o.input lines (g.A.LineAnswerer.answering c.args.answerer.now) (g.A.LineAnswerer.known c.args.answerer.now) c.args.progress left c.in-Ok.ensures.cause c.in-Ok.ensures.room _ _ _ c.in-Ok-answer_in_turn.done c.status_if.result c.status_if.ensures c.in-Ok.ensures.made c.in-Ok-answer_in_turn.ensures.made

pub returns-clause-made : goal.returns-clause-made
returns-clause-made g c =
    let o = g.S.System.outside c.args.system.now in
    let lines = o.lines c.in-Ok.lines in
    let left = left_of o o.input lines c.in-Ok.ensures.given c.in-Ok.ensures.known c.in-Ok.ensures.cause in
    input_failed o o.input lines (g.A.LineAnswerer.answering c.args.answerer.now) (g.A.LineAnswerer.known c.args.answerer.now) c.args.progress left c.in-Ok.ensures.cause c.in-Ok.ensures.room _ _ _ c.in-Err-answer_in_turn.fault c.in-Err-answer_in_turn.fault c.in-Ok.ensures.made c.in-Err-answer_in_turn.ensures.made
