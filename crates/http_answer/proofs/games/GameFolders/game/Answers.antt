use Rattle.http_answer.specs.Games.{games_on}
use Rattle.http_answer.proofs.ReadLaws.{game_at}
use Rattle.http_answer.proofs.ReportLaws.{found_so, lacks_game}
use Rattle.http_answer.proofs.games.GameFolders.game.Goals as goal

pub returns-in-Ok-Ok-clause-game : goal.returns-in-Ok-Ok-clause-game
returns-in-Ok-Ok-clause-game g c = found_so g.S.System.outside (games_on c.args.self.now) _ _ c.args.stamp c.in-Ok-Ok.found (rw c.in-Ok-Ok.field-0-is at c.in-Ok-Ok.ensures.made)

pub returns-in-Ok-clause-lacked : goal.returns-in-Ok-clause-lacked
returns-in-Ok-clause-lacked g c = lacks_game g.S.System.outside (games_on c.args.self.now) _ _ c.args.stamp c.in-Ok-Err.refusal c.in-Ok.lacked (rw c.in-Ok-Err.field-0-is at c.in-Ok-Err.ensures.made) c.in-Ok.ensures

pub returns-in-Ok-Ok-clause-made : goal.returns-in-Ok-Ok-clause-made
returns-in-Ok-Ok-clause-made g c = game_at g.S.System.outside _ _ _ _ _ _ _ c.read_game.ensures.made

pub returns-in-Ok-clause-made : goal.returns-in-Ok-clause-made
returns-in-Ok-clause-made g c = game_at g.S.System.outside _ _ _ _ _ _ _ c.read_game.ensures.made

pub returns-in-Err-lacked_by-clause-made : goal.returns-in-Err-lacked_by-clause-made
returns-in-Err-lacked_by-clause-made g c = game_at g.S.System.outside _ _ _ _ _ _ _ c.read_game.ensures.made

pub returns-in-Err-clause-made : goal.returns-in-Err-clause-made
returns-in-Err-clause-made g c = game_at g.S.System.outside _ _ _ _ _ _ _ c.read_game.ensures.made
