use Rattle.std.proofs.Common.{false, ap, subst, sym}
use Rattle.pgn_games.specs.Lines.{read_text}
use Rattle.pgn_games.specs.Reading.{tokens_with}
use Rattle.pgn_games.specs.Inside.Owned.{course_of}
use Rattle.pgn_games.specs.Inside.Steps.{LeavesLine, ReadsToEnd, TellsOn, comment_left}
use Rattle.pgn_games.proofs.GameLaws.{continues_same, continues_then}
use Rattle.pgn_games.proofs.LineLaws.{begins}
use Rattle.pgn_games.proofs.LineReadLaws.{no_room, read_none}
use Rattle.pgn_games.proofs.ReadLaws.{known_map, known_same, past_line, tells_then, told_over}
use Rattle.pgn_games.proofs.telling.tell_on.Goals as goal

pub returns-in-GameOver-clause-told : goal.returns-in-GameOver-clause-told
returns-in-GameOver-clause-told g c =
    let leaves = subst (LeavesLine (course_of c.args.course.now) c.args.cursor.now (course_of c.tell_line.new.course) c.tell_line.new.self) c.in-GameOver.is c.in_ok-tell_line.ensures.leaves in
    known_same ((g.S.System.outside c.args.system.now).lines c.args.lines.now).left (λ x y. ReadsToEnd (course_of c.args.course.now) (tokens_with c.args.cursor.now (read_text x)) (course_of c.tell_line.new.course) (tokens_with c.tell_line.new.self (read_text y))) (λ x. told_over _ _ _ _ (leaves (read_text x) (begins x)).0 (leaves (read_text x) (begins x)).1)

pub returns-in_ok-pass_comment-in-InComment-clause-told : goal.returns-in_ok-pass_comment-in-InComment-clause-told
returns-in_ok-pass_comment-in-InComment-clause-told g c =
    let new = c.tell_line.new.self in
    let leaves = subst (LeavesLine (course_of c.args.course.now) c.args.cursor.now (course_of c.tell_line.new.course) new) c.in-InComment.is c.in_ok-tell_line.ensures.leaves in
    known_map _ _ _ _ (λ x y h. continues_then _ _ _ _ _ _ (leaves.1 (read_text x) (begins x)) (continues_then _ _ _ _ _ _ (continues_same _ _ _ (ap (comment_left new.number false new.number) (sym (past_line new (read_text x) leaves.0)))) h)) c.in_ok-pass_comment-in-InComment.ensures.told

pub returns-in_ok-next-in-AtEnd-clause-told : goal.returns-in_ok-next-in-AtEnd-clause-told
returns-in_ok-next-in-AtEnd-clause-told g c =
    let new = c.tell_line.new.self in
    let leaves = subst (LeavesLine (course_of c.args.course.now) c.args.cursor.now (course_of c.tell_line.new.course) new) c.in-AtEnd.is c.in_ok-tell_line.ensures.leaves in
    let next = c.in_ok-next-in-AtEnd.next in
    let after = course_of c.tell_next.new.course in
    known_map ((g.S.System.outside c.args.system.now).lines c.args.lines.now).left ((g.S.System.outside c.args.system.now).lines c.tell_next.new.lines).left (λ x y. TellsOn next (course_of c.tell_line.new.course) (tokens_with new (read_text x)) after (tokens_with c.tell_next.new.cursor (read_text y))) (λ x y. TellsOn next (course_of c.args.course.now) (tokens_with c.args.cursor.now (read_text x)) after (tokens_with c.tell_next.new.cursor (read_text y))) (λ x y h. tells_then next _ _ after _ _ (tokens_with c.tell_next.new.cursor (read_text y)) (leaves.1 (read_text x) (begins x)) h) c.in_ok-next-in-AtEnd.ensures.told

pub returns-in_err-tell_line-clause-made : goal.returns-in_err-tell_line-clause-made
returns-in_err-tell_line-clause-made g c =
    let o = g.S.System.outside c.args.system.now in
    let left = (o.lines c.args.lines.now).left in
    no_room o c.args.timeline.now c.args.timeline.now left left left c.from_residual.result c.from_residual.ensures.1 (read_none o c.args.timeline.now left)

pub returns-in-GameOver-clause-made : goal.returns-in-GameOver-clause-made
returns-in-GameOver-clause-made g c =
    let o = g.S.System.outside c.args.system.now in
    read_none o c.args.timeline.now (o.lines c.args.lines.now).left

pub returns-in_ok-pass_comment-in-InComment-clause-made : goal.returns-in_ok-pass_comment-in-InComment-clause-made
returns-in_ok-pass_comment-in-InComment-clause-made g c = c.in_ok-pass_comment-in-InComment.ensures.made

pub returns-in_ok-next-in-AtEnd-clause-made : goal.returns-in_ok-next-in-AtEnd-clause-made
returns-in_ok-next-in-AtEnd-clause-made g c = c.in_ok-next-in-AtEnd.ensures.made
