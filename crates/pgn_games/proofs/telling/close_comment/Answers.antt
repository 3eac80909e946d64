use Rattle.std.proofs.Common.{◌≡◌, ◌≤◌, ◌∙◌, ◌++◌, Bool, Global, List, Vec, ℕ, false, ap, arith, refl, sym, subst, vec_len}
use Rattle.pgn_games.specs.declared.cursor.Cursor.{Cursor}
use Rattle.pgn_games.specs.declared.lines.Taken.{Taken}
use Rattle.pgn_games.specs.Lines.{read_text}
use Rattle.pgn_games.specs.Tokens.{Token}
use Rattle.pgn_games.specs.Reading.{IfKnown, tokens_with}
use Rattle.pgn_games.specs.Inside.Lines.{OneLine}
use Rattle.pgn_games.specs.Inside.Steps.{StandsAtLine, TakesText, comment_left, rest_with}
use Rattle.pgn_games.proofs.LineReadLaws.{read_error, read_more, read_no_room, read_none, read_then}
use Rattle.pgn_games.proofs.ReadLaws.{comment_at_end, comment_line, comment_long_line, joined, known_same, known_then, not_closed}
use Rattle.pgn_games.proofs.telling.close_comment.Goals as goal
use Rattle.pgn_games.proofs.telling.close_comment.Goals.{in-LongLine, in-Line+else-close_comment}

pub returns-in-Nothing-clause-closes : goal.returns-in-Nothing-clause-closes
returns-in-Nothing-clause-closes g c =
    let text = subst (λ (t : Taken). IfKnown ((g.S.System.outside c.args.system.now).lines c.loop.lines).left ((g.S.System.outside c.args.system.now).lines c.take_line.new.lines).left (TakesText c.loop.cursor c.take_line.new.cursor t)) c.in-Nothing.is c.in_ok-take_line.ensures.text in
    λ from. known_then _ _ _ _ _ _ (λ x y z p q. p ∙ comment_at_end from c.loop.long c.loop.cursor c.take_line.new.cursor y z q) (c.loop.invariant.left from) text

pub returns-then-close_comment-clause-closes : goal.returns-then-close_comment-clause-closes
returns-then-close_comment-clause-closes g c =
    let text = subst (λ (t : Taken). IfKnown ((g.S.System.outside c.args.system.now).lines c.loop.lines).left ((g.S.System.outside c.args.system.now).lines c.take_line.new.lines).left (TakesText c.loop.cursor c.take_line.new.cursor t)) c.in-Line.is c.in_ok-take_line.ensures.text in
    λ from.
    known_then _ _ _ _ _ _ (λ x y z p q. p ∙ comment_line from c.loop.long c.loop.cursor c.take_line.new.cursor y z q ∙ c.if-close_comment.ensures.closes from c.loop.long (read_text z) ∙ ap (λ (ts : List Token). ts ++ tokens_with c.close_comment.new.self (read_text z)) (sym (c.closed_with.ensures from))) (c.loop.invariant.left from) text

pub loop-preserved : goal.loop-preserved
loop-preserved g c =
    let left = λ (from : ℕ) (cursor : Cursor) (long : Bool). IfKnown ((g.S.System.outside c.args.system.now).lines c.args.lines.now).left ((g.S.System.outside c.args.system.now).lines c.take_line.new.lines).left (λ x y. comment_left from false c.args.cursor.now.number (rest_with c.args.cursor.now (read_text x)) ≡ comment_left from long cursor.number (rest_with cursor (read_text y))) in
    let text = λ (t : Taken). IfKnown ((g.S.System.outside c.args.system.now).lines c.loop.lines).left ((g.S.System.outside c.args.system.now).lines c.take_line.new.lines).left (TakesText c.loop.cursor c.take_line.new.cursor t) in
    elim c.match-branch-2.branch [
      | in-LongLine w ↦ record {
        left = λ from.
            joined _ _ _ _ (left from) w.cursor-is w.long-is (known_then _ _ _ _ _ _ (λ x y z p q. p ∙ comment_long_line from c.loop.long c.loop.cursor c.take_line.new.cursor y z q) (c.loop.invariant.left from) (subst text w.in-LongLine.is c.in_ok-take_line.ensures.text));
        past = subst (λ (x : Cursor). vec_len x.line ≤ x.place) (sym w.cursor-is) (omega (arith, subst (StandsAtLine c.take_line.new.cursor) w.in-LongLine.is c.in_ok-take_line.ensures.place, c.take_line.new.cursor.line.ok.0));
        one = subst (λ (x : Cursor). OneLine x.line.items) (sym w.cursor-is) c.in_ok-take_line.ensures.one;
        fails = λ h. c.loop.invariant.fails (c.in_ok-take_line.ensures.same h);
        made = read_then (g.S.System.outside c.args.system.now) _ _ _ _ _ _ c.loop.invariant.made c.in_ok-take_line.ensures.made;
      }
      | in-Line+else-close_comment w ↦ record {
        left = λ from.
            joined _ _ _ _ (left from) w.cursor-is w.long-is (known_then _ _ _ _ _ _ (λ x y z p q. p ∙ comment_line from c.loop.long c.loop.cursor c.take_line.new.cursor y z q ∙ not_closed from c.loop.long c.take_line.new.cursor w.close_comment.new.self (read_text z) (omega (arith, w.close_comment.ensures.end w.if-close_comment.false, w.close_comment.new.self.line.ok.0)) (w.if-close_comment.ensures.closes from c.loop.long (read_text z))) (c.loop.invariant.left from) (subst text w.in-Line.is c.in_ok-take_line.ensures.text));
        past = subst (λ (x : Cursor). vec_len x.line ≤ x.place) (sym w.cursor-is) (w.close_comment.ensures.end w.if-close_comment.false);
        one = subst (λ (x : Cursor). OneLine x.line.items) (sym w.cursor-is) (subst (λ (v : Vec ℕ Global). OneLine v.items) (sym w.close_comment.ensures.line) c.in_ok-take_line.ensures.one);
        fails = λ h. c.loop.invariant.fails (c.in_ok-take_line.ensures.same h);
        made = read_then (g.S.System.outside c.args.system.now) _ _ _ _ _ _ c.loop.invariant.made c.in_ok-take_line.ensures.made;
      }
    ]

pub loop-init : goal.loop-init
loop-init g c =
    let o = g.S.System.outside c.args.system.now in
    let cursor = c.args.cursor.now in
    let left = (o.lines c.args.lines.now).left in
    record {
      left = λ from.
          known_same left (λ x y. comment_left from false cursor.number (rest_with cursor (read_text x)) ≡ comment_left from false cursor.number (rest_with cursor (read_text y))) (λ x. refl);
      past = c.requires.past;
      one = c.requires.one;
      fails = λ h. h;
      made = read_none o c.args.timeline.now left;
    }

pub returns-in-Nothing-clause-made : goal.returns-in-Nothing-clause-made
returns-in-Nothing-clause-made g c = read_then (g.S.System.outside c.args.system.now) _ _ _ _ _ _ c.loop.invariant.made c.in_ok-take_line.ensures.made

pub returns-then-close_comment-clause-made : goal.returns-then-close_comment-clause-made
returns-then-close_comment-clause-made g c = read_then (g.S.System.outside c.args.system.now) _ _ _ _ _ _ c.loop.invariant.made c.in_ok-take_line.ensures.made

pub returns-in_err-take_line-clause-made : goal.returns-in_err-take_line-clause-made
returns-in_err-take_line-clause-made g c =
    let o = g.S.System.outside c.args.system.now in
    read_more o _ _ _ _ _ _ c.from_residual.result c.loop.invariant.made (read_error o _ _ _ _ _ c.from_residual.result c.from_residual.ensures.1 c.in_err-take_line.ensures.made)

pub returns-clause-made : goal.returns-clause-made
returns-clause-made g c = read_no_room (g.S.System.outside c.args.system.now) _ _ _ _ _ refl c.loop.invariant.made
