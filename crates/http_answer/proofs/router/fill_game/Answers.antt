use Rattle.std.proofs.Common.{ℕ, List, subst}
use Rattle.std.proofs.lemmas.Result.{on_ok_weaker}
use Rattle.http_server.specs.Response.{IsResponse}
use Rattle.http_answer.specs.Games.{fresh_json}
use Rattle.http_answer.proofs.router.fill_game.Goals as goal

pub returns-clause-game : goal.returns-clause-game
returns-clause-game g c = on_ok_weaker c.fill_fresh_json.result (λ has. (c.in_ok-text.text.items, c.in_ok-text.ensures.text, subst (λ (text : List ℕ). IsResponse 200 fresh_json text c.fill_fresh_json.new.response) c.deref.ensures.value has)) c.fill_fresh_json.ensures
