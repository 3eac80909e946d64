use Rattle.std.proofs.Common.{◌∙◌, sym}
use Rattle.http_answer.proofs.ReadLaws.{game_again, game_once}
use Rattle.http_answer.proofs.RouterLaws.{ok_then}
use Rattle.http_answer.proofs.router.answer_game_with_room.Goals as goal

pub returns-then-is_ok-clause-game : goal.returns-then-is_ok-clause-game
returns-then-is_ok-clause-game g c = ok_then c.answer_game.result (sym c.is_ok.ensures.value ∙ c.if-is_ok.true) c.answer_game.ensures.game

pub returns-then-is_ok-clause-made : goal.returns-then-is_ok-clause-made
returns-then-is_ok-clause-made g c = game_once g.S.System.outside c.args.games.now.on c.args.answerer.now _ _ _ c.answer_game.ensures.made

pub returns-in_err-apart-clause-made : goal.returns-in_err-apart-clause-made
returns-in_err-apart-clause-made g c = game_once g.S.System.outside c.args.games.now.on c.args.answerer.now _ _ _ c.answer_game.ensures.made

pub returns-clause-made : goal.returns-clause-made
returns-clause-made g c =
    game_again g.S.System.outside c.args.games.now.on c.in_ok-apart.apart c.args.answerer.now _ _ _ _ (c.in_ok-apart.ensures ∙ c.answer_game.ensures.same) c.answer_game.ensures.made c.answer_game-2.ensures.made
