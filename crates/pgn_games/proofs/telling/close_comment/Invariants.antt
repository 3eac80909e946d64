use Rattle.std.proofs.Common.{ℕ, ◌≡◌, ◌≤◌, false, vec_len}
use Rattle.pgn_games.specs.Lines.{read_text}
use Rattle.pgn_games.specs.LineReads.{ReadsLines}
use Rattle.pgn_games.specs.Reading.{IfKnown}
use Rattle.timeline.specs.Outsides.{AddsSome}
use Rattle.pgn_games.specs.Inside.Lines.{OneLine}
use Rattle.pgn_games.specs.Inside.Steps.{comment_left, rest_with}
use Rattle.pgn_games.proofs.telling.close_comment.Given as goal

abbrev pub invariant-loop : goal.invariant-loop
invariant-loop g l = record {
  left : (from : ℕ) → IfKnown ((g.S.System.outside l.system).lines l.fn.lines).left ((g.S.System.outside l.system).lines l.lines).left (λ left behind. comment_left from false l.fn.cursor.number (rest_with l.fn.cursor (read_text left)) ≡ comment_left from l.long l.cursor.number (rest_with l.cursor (read_text behind)));
  past : vec_len l.cursor.line ≤ l.cursor.place;
  one : OneLine l.cursor.line.items;
  fails : ((g.S.System.outside l.system).lines l.lines).fails → ((g.S.System.outside l.system).lines l.fn.lines).fails;
  made : AddsSome (g.S.System.outside l.system) l.fn.timeline l.timeline (ReadsLines ((g.S.System.outside l.system).lines l.fn.lines).left ((g.S.System.outside l.system).lines l.lines).left);
}
