use Rattle.std.proofs.Common.{length}
use Rattle.json_lines.proofs.writing.+put_moves.Given as goal

abbrev pub decreases-put_moves : goal.decreases-put_moves
decreases-put_moves g l = length l.moves.now
