use Rattle.json_lines.specs.Objects.{move_json}
use Rattle.std.proofs.lemmas.Result.{on_ok_weaker}
use Rattle.json_lines.proofs.Whole.{no_move, one_move}
use Rattle.json_lines.proofs.writing.+put_moves.Goals as goal

pub returns-in-None : goal.returns-in-None
returns-in-None g n c = no_move move_json c.args.later c.args.moves.now _ c.in-None.ensures.cases

pub returns-in-Ok : goal.returns-in-Ok
returns-in-Ok g n c = on_ok_weaker c.put_moves.result (λ h. one_move move_json c.args.later c.args.moves.now c.in-Some.told.now c.in-Some.rest.now _ _ _ c.in-Some.ensures.cases c.in-Ok.ensures h) c.put_moves.ensures
