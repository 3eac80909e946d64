use Rattle.std.proofs.Common.{◌≡◌, ◌-◌, ℕ, List, vec_len}
use Rattle.pgn_games.specs.Inside.Owned.{course_of}
use Rattle.pgn_games.specs.Inside.Steps.{BeginsLine, Continues, IsOn}
use Rattle.pgn_games.specs.Reading.{tokens_with}
use Rattle.pgn_games.proofs.cursor.Cursor.tell_line.Given as goal

abbrev pub invariant-loop-self : goal.invariant-loop-self
invariant-loop-self l = record {
  steps : (more : List ℕ) → BeginsLine more → Continues (course_of l.fn.course) (tokens_with l.fn.self more) (course_of l.course) (tokens_with l.self more);
  line : l.self.line ≡ l.fn.self.line;
  on : IsOn l.course.phase;
  number : l.self.number ≡ l.fn.self.number;
}

abbrev pub decreases-loop-self : goal.decreases-loop-self
decreases-loop-self l = vec_len l.self.line - l.self.place
