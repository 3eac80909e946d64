use Rattle.std.proofs.Common.{ap, sym, Some, ◌∙◌}
use Rattle.pgn_games.proofs.CourseLaws.{start_set}
use Rattle.pgn_games.proofs.course.Course.set_tag.Goals as goal

pub returns-in-Fen : goal.returns-in-Fen
returns-in-Fen c =
    start_set _ _ _ _ _ _ c.in_ok-value.ensures (sym c.name_of.ensures ∙ c.in-Some.is ∙ ap Some c.in-Fen.is) c.set_start.ensures
