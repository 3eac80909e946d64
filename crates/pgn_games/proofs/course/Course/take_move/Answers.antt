use Rattle.std.proofs.Common.{arith}
use Rattle.pgn_games.proofs.CourseLaws.{move_read}
use Rattle.pgn_games.proofs.course.Course.take_move.Goals as goal

pub returns-in_ok-play-in-Ok : goal.returns-in_ok-play-in-Ok
returns-in_ok-play-in-Ok c = move_read _ _ _ _ (omega arith) (c.in-Ok.m, c.in-Ok.ensures.ok, c.in_ok-play-in-Ok.ensures)
