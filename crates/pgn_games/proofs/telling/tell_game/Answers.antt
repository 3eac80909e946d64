use Rattle.std.proofs.Common.{refl, subst}
use Rattle.pgn_games.specs.declared.cursor.Next.{Next}
use Rattle.pgn_games.specs.Lines.{read_text}
use Rattle.pgn_games.specs.Reading.{IfKnown, tokens_with}
use Rattle.pgn_games.specs.Inside.Owned.{course_of}
use Rattle.pgn_games.specs.Inside.Steps.{Continues, TellsOn}
use Rattle.pgn_games.proofs.GameLaws.{continues_same, continues_then}
use Rattle.pgn_games.proofs.LineReadLaws.{read_error, read_more, read_no_room, read_none, read_then}
use Rattle.pgn_games.proofs.ReadLaws.{known_same, known_then}
use Rattle.pgn_games.proofs.telling.tell_game.Goals as goal

pub loop-init : goal.loop-init
loop-init g c =
    let o = g.S.System.outside c.args.system.now in
    record {
      told = known_same (o.lines c.args.lines.now).left (λ x y. Continues (course_of c.args.course.now) (tokens_with c.args.cursor.now (read_text x)) (course_of c.args.course.now) (tokens_with c.args.cursor.now (read_text y))) (λ x. continues_same (course_of c.args.course.now) (tokens_with c.args.cursor.now (read_text x)) (tokens_with c.args.cursor.now (read_text x)) refl);
      on = c.requires.on;
      one = c.requires.one;
      fails = λ h. h;
      made = read_none o c.args.timeline.now (o.lines c.args.lines.now).left;
    }

pub loop-preserved : goal.loop-preserved
loop-preserved g c =
    let o = g.S.System.outside c.args.system.now in
    let told = subst (λ (n : Next). IfKnown (o.lines c.loop.lines).left (o.lines c.tell_on.new.lines).left (λ x y. TellsOn n (course_of c.loop.course) (tokens_with c.loop.cursor (read_text x)) (course_of c.tell_on.new.course) (tokens_with c.tell_on.new.cursor (read_text y)))) c.in-GoesOn.is c.in_ok-tell_on.ensures.told in
    record {
      told = known_then _ _ _ _ _ _ (λ x y z p q. continues_then _ _ _ _ _ _ p q) c.loop.invariant.told told;
      on = c.in_ok-tell_on.ensures.on c.in-GoesOn.is;
      one = c.in_ok-tell_on.ensures.one;
      fails = λ h. c.loop.invariant.fails (c.in_ok-tell_on.ensures.same h);
      made = read_then o _ _ _ _ _ _ c.loop.invariant.made c.in_ok-tell_on.ensures.made;
    }

pub returns-in-Stops-clause-made : goal.returns-in-Stops-clause-made
returns-in-Stops-clause-made g c =
    read_then (g.S.System.outside c.args.system.now) _ _ _ _ _ _ c.loop.invariant.made c.in_ok-tell_on.ensures.made

pub returns-in_err-tell_on-clause-made : goal.returns-in_err-tell_on-clause-made
returns-in_err-tell_on-clause-made g c =
    read_more (g.S.System.outside c.args.system.now) _ _ _ _ _ _ c.from_residual.result c.loop.invariant.made (read_error (g.S.System.outside c.args.system.now) _ _ _ _ _ c.from_residual.result c.from_residual.ensures.1 c.in_err-tell_on.ensures.made)

pub returns-clause-made : goal.returns-clause-made
returns-clause-made g c = read_no_room (g.S.System.outside c.args.system.now) _ _ _ _ _ refl c.loop.invariant.made
