use Rattle.std.proofs.lemmas.Result.{on_err_weaker}
use Rattle.move_notation.proofs.TurnLaws.{has_move}
use Rattle.move_notation.proofs.words_in_turn.read_moves_in.Goals as goal

pub returns-in-Coordinates-clause-memory : goal.returns-in-Coordinates-clause-memory
returns-in-Coordinates-clause-memory c = on_err_weaker c.read_moves.result (has_move c.args.text.now) c.read_moves.ensures.memory
