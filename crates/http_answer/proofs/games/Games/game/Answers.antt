use Rattle.std.proofs.lemmas.Result.{IfErr-weaker, IfOk-weaker}
use Rattle.http_answer.specs.Games.{LacksGames}
use Rattle.http_answer.specs.Reads.{ReadsAGame, ReadsIn}
use Rattle.http_answer.proofs.ReportLaws.{game_so, so_by}
use Rattle.http_answer.proofs.games.Games.game.Goals as goal

pub returns-clause-game : goal.returns-clause-game
returns-clause-game g c = IfOk-weaker c.game.result _ _ (λ r h. IfOk-weaker r _ _ (λ found is. game_so g.S.System.outside _ _ c.args.stamp found c.self.view_is is) h) c.game.ensures.game

pub returns-clause-lacked : goal.returns-clause-lacked
returns-clause-lacked g c = IfOk-weaker c.game.result _ _ (λ r h. IfErr-weaker r _ _ (λ why lacks. so_by _ _ (λ s. LacksGames g.S.System.outside s.on why) c.self.view_is lacks) h) c.game.ensures.lacked

pub returns-clause-made : goal.returns-clause-made
returns-clause-made g c = so_by _ _ (λ s. ReadsIn g.S.System.outside s.on c.args.timeline.now c.game.new.timeline (λ o folders. ReadsAGame o folders c.args.stamp)) c.self.view_is c.game.ensures.made
