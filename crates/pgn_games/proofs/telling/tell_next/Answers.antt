use Rattle.std.proofs.Common.{refl, false, subst}
use Rattle.pgn_games.specs.declared.lines.Taken.{Taken}
use Rattle.pgn_games.specs.Lexemes.{TooLong}
use Rattle.pgn_games.specs.Reading.{IfKnown}
use Rattle.pgn_games.specs.Inside.Owned.{course_of}
use Rattle.pgn_games.specs.Inside.Steps.{TakesText}
use Rattle.pgn_games.proofs.GameLaws.{continues_same, continues_then}
use Rattle.pgn_games.proofs.LineReadLaws.{no_room}
use Rattle.pgn_games.proofs.ReadLaws.{continues_fault, known_map, next_line, next_long_line, no_line, on_after_fault, over_without_line, told_over}
use Rattle.pgn_games.proofs.telling.tell_next.Goals as goal

pub returns-in-Nothing-clause-told : goal.returns-in-Nothing-clause-told
returns-in-Nothing-clause-told g c =
    let old = c.args.cursor.now in
    let new = c.take_line.new.cursor in
    let text = subst (λ (t : Taken). IfKnown ((g.S.System.outside c.args.system.now).lines c.args.lines.now).left ((g.S.System.outside c.args.system.now).lines c.take_line.new.lines).left (TakesText old new t)) c.in-Nothing.is c.in_ok-take_line.ensures.text in
    known_map _ _ _ _ (λ x y h. told_over (course_of c.args.course.now) _ _ _ (continues_same _ _ _ (no_line old new x y h)) (over_without_line _ old new x y h)) text

pub returns-in-Line-clause-told : goal.returns-in-Line-clause-told
returns-in-Line-clause-told g c =
    let old = c.args.cursor.now in
    let new = c.take_line.new.cursor in
    let text = subst (λ (t : Taken). IfKnown ((g.S.System.outside c.args.system.now).lines c.args.lines.now).left ((g.S.System.outside c.args.system.now).lines c.take_line.new.lines).left (TakesText old new t)) c.in-Line.is c.in_ok-take_line.ensures.text in
    known_map _ _ _ _ (λ x y h. continues_same _ _ _ (next_line old new x y h)) text

pub returns-in_ok-put-in-LongLine-clause-told : goal.returns-in_ok-put-in-LongLine-clause-told
returns-in_ok-put-in-LongLine-clause-told g c =
    let old = c.args.cursor.now in
    let new = c.take_line.new.cursor in
    let text = subst (λ (t : Taken). IfKnown ((g.S.System.outside c.args.system.now).lines c.args.lines.now).left ((g.S.System.outside c.args.system.now).lines c.take_line.new.lines).left (TakesText old new t)) c.in-LongLine.is c.in_ok-take_line.ensures.text in
    let put = c.in_ok-put-in-LongLine.ensures false TooLong refl in
    known_map _ _ _ _ (λ x y h. continues_then _ _ _ _ _ _ (continues_same _ _ _ (next_long_line old new x y h)) (continues_fault (course_of c.args.course.now) (course_of c.put.new.self) new.number _ c.requires.on put)) text

pub returns-in_ok-put-in-LongLine-clause-on : goal.returns-in_ok-put-in-LongLine-clause-on
returns-in_ok-put-in-LongLine-clause-on g c =
    on_after_fault (course_of c.args.course.now) (course_of c.put.new.self) c.take_line.new.cursor.number c.requires.on (c.in_ok-put-in-LongLine.ensures false TooLong refl)

pub returns-in_err-put-in-LongLine-clause-made : goal.returns-in_err-put-in-LongLine-clause-made
returns-in_err-put-in-LongLine-clause-made g c =
    no_room (g.S.System.outside c.args.system.now) _ _ _ _ _ c.from_residual-in_err-put-in-LongLine.result c.from_residual-in_err-put-in-LongLine.ensures.1 c.in_ok-take_line.ensures.made

pub returns-in-Nothing-clause-made : goal.returns-in-Nothing-clause-made
returns-in-Nothing-clause-made g c = c.in_ok-take_line.ensures.made

pub returns-in-Line-clause-made : goal.returns-in-Line-clause-made
returns-in-Line-clause-made g c = c.in_ok-take_line.ensures.made

pub returns-in_ok-put-in-LongLine-clause-made : goal.returns-in_ok-put-in-LongLine-clause-made
returns-in_ok-put-in-LongLine-clause-made g c = c.in_ok-take_line.ensures.made
