use Rattle.std.proofs.lemmas.Result.{on_ok_weaker}
use Rattle.json_lines.specs.Api.{api_move_json}
use Rattle.json_lines.proofs.Whole.{no_move, one_move}
use Rattle.json_lines.proofs.api.+put_api_moves.Goals as goal

pub returns-in-None : goal.returns-in-None
returns-in-None g n c = no_move (api_move_json c.args.form) c.args.later c.args.moves.now _ c.in-None.ensures.cases

pub returns-in-Ok : goal.returns-in-Ok
returns-in-Ok g n c = on_ok_weaker c.put_api_moves.result (λ h. one_move (api_move_json c.args.form) c.args.later c.args.moves.now c.in-Some.played.now c.in-Some.rest.now _ _ _ c.in-Some.ensures.cases c.in-Ok.ensures h) c.put_api_moves.ensures
