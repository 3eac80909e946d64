use Rattle.pgn_games.specs.Lines.{read_text}
use Rattle.pgn_games.specs.LineReads.{ReadsLines}
use Rattle.pgn_games.specs.Reading.{IfKnown, tokens_with}
use Rattle.timeline.specs.Outsides.{AddsSome}
use Rattle.pgn_games.specs.Inside.Owned.{course_of}
use Rattle.pgn_games.specs.Inside.Lines.{OneLine}
use Rattle.pgn_games.specs.Inside.Steps.{Continues, IsOn}
use Rattle.pgn_games.proofs.telling.tell_game.Given as goal

abbrev pub invariant-loop : goal.invariant-loop
invariant-loop g l = record {
  told : IfKnown ((g.S.System.outside l.system).lines l.fn.lines).left ((g.S.System.outside l.system).lines l.lines).left (λ left behind. Continues (course_of l.fn.course) (tokens_with l.fn.cursor (read_text left)) (course_of l.course) (tokens_with l.cursor (read_text behind)));
  on : IsOn l.course.phase;
  one : OneLine l.cursor.line.items;
  fails : ((g.S.System.outside l.system).lines l.lines).fails → ((g.S.System.outside l.system).lines l.fn.lines).fails;
  made : AddsSome (g.S.System.outside l.system) l.fn.timeline l.timeline (ReadsLines ((g.S.System.outside l.system).lines l.fn.lines).left ((g.S.System.outside l.system).lines l.lines).left);
}
