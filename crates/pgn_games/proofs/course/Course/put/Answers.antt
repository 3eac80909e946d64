use Rattle.pgn_games.proofs.CourseLaws.{passes}
use Rattle.pgn_games.proofs.course.Course.put.Goals as goal

pub returns : goal.returns
returns c =
    λ first told is. passes _ _ _ c.args.line told (c.in_ok-take_first.ensures first told is) (c.pass.ensures first told is)
