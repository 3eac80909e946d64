use Rattle.std.proofs.Common.{List, refl, subst, ℕ}
use Rattle.fen_text.specs.Fen.{IsFirstFenFault}
use Rattle.pgn_games.proofs.course.Course.set_start.Goals as goal

pub returns-in-Err : goal.returns-in-Err
returns-in-Err c =
    ((c.in-Err.fault, subst (λ (t : List ℕ). IsFirstFenFault t c.in-Err.fault) c.deref.ensures.value c.in-Err.ensures.err, refl), refl)
