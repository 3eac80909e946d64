use Rattle.std.proofs.Common.{refl}
use Rattle.std.proofs.lemmas.Result.{on_ok_weaker}
use Rattle.http_answer.specs.Games.{Lacking, Unknown}
use Rattle.http_answer.proofs.ReadLaws.{game_alone, game_then}
use Rattle.http_answer.proofs.RouterLaws.{game_found}
use Rattle.http_answer.proofs.router.answer_game.Goals as goal

pub returns-in-Ok-Some-clause-game : goal.returns-in-Ok-Some-clause-game
returns-in-Ok-Some-clause-game g c =
    let found = rw (c.in-Ok-Some.is, c.in-Ok-Some.field-0-is) at c.in_ok-found.ensures.game in
    let filled = rw c.compares.ensures at c.fill_game.ensures.game in
    on_ok_weaker c.fill_game.result (λ (text, game, has). game_found _ _ g.S.System.outside _ _ c.in-Ok-Some.found text _ found game has) filled

pub returns-in-Ok-None-clause-game : goal.returns-in-Ok-None-clause-game
returns-in-Ok-None-clause-game g c =
    let none = rw (c.in-Ok-None.is, c.in-Ok-None.field-0-is) at c.in_ok-found.ensures.game in
    on_ok_weaker c.fill_fresh_json.result (λ has. Unknown none has) c.fill_fresh_json.ensures

pub returns-in-Err-clause-game : goal.returns-in-Err-clause-game
returns-in-Err-clause-game g c =
    let lacks = rw c.in-Err.is at c.in_ok-found.ensures.lacked in
    on_ok_weaker c.fill_lacked.result (λ has. Lacking (c.in-Err.lacked, lacks, has)) c.fill_lacked.ensures

pub returns-in-Ok-Some-clause-made : goal.returns-in-Ok-Some-clause-made
returns-in-Ok-Some-clause-made g c = game_then g.S.System.outside c.args.games.now.on c.args.answerer.now c.args.answerer.now _ _ _ _ c.requires.one refl c.game.ensures.made c.fill_game.ensures.made

pub returns-in-Ok-None-clause-made : goal.returns-in-Ok-None-clause-made
returns-in-Ok-None-clause-made g c = game_alone g.S.System.outside c.args.games.now.on c.args.answerer.now _ _ _ c.requires.one c.game.ensures.made

pub returns-in-Err-clause-made : goal.returns-in-Err-clause-made
returns-in-Err-clause-made g c = game_alone g.S.System.outside c.args.games.now.on c.args.answerer.now _ _ _ c.requires.one c.game.ensures.made

pub returns-in_err-found-clause-made : goal.returns-in_err-found-clause-made
returns-in_err-found-clause-made g c = game_alone g.S.System.outside c.args.games.now.on c.args.answerer.now _ _ _ c.requires.one c.game.ensures.made
