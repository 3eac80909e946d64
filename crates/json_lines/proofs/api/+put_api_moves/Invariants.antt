use Rattle.std.proofs.Common.{length}
use Rattle.json_lines.proofs.api.+put_api_moves.Given as goal

abbrev pub decreases-put_api_moves : goal.decreases-put_api_moves
decreases-put_api_moves g l = length l.moves.now
