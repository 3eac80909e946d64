use Rattle.std.proofs.Common.{refl}
use Rattle.std.proofs.lemmas.Result.{on_ok_weaker}
use Rattle.board_core.proofs.Refused.{on_err}
use Rattle.http_answer.proofs.ReadLaws.{nothing_added, report_here}
use Rattle.http_answer.proofs.router.answer.Goals as goal

pub returns-in-Game-clause-answered : goal.returns-in-Game-clause-answered
returns-in-Game-clause-answered g c = rw c.in-Game.is (on_ok_weaker c.answer_game_with_room.result (λ has. (has, refl)) c.answer_game_with_room.ensures.game)

pub returns-in-Games-clause-made : goal.returns-in-Games-clause-made
returns-in-Games-clause-made g c = rw c.in-Games.is (report_here g.S.System.outside c.args.games.now.on c.args.answerer.now _ _ _ c.requires.one c.answer_report.ensures.made)

pub returns-in-Metrics-clause-made : goal.returns-in-Metrics-clause-made
returns-in-Metrics-clause-made g c = rw c.in-Metrics.is (report_here g.S.System.outside c.args.games.now.on c.args.answerer.now _ _ _ c.requires.one c.answer_report-in-Metrics.ensures.made)

pub returns-in-Game-clause-made : goal.returns-in-Game-clause-made
returns-in-Game-clause-made g c = rw c.in-Game.is c.answer_game_with_room.ensures.made

pub returns-in-NoStamp-clause-made : goal.returns-in-NoStamp-clause-made
returns-in-NoStamp-clause-made g c = rw c.in-NoStamp.is (nothing_added g.S.System.outside c.args.answerer.now.disk.system.now _)

pub returns-in-Watch-clause-made : goal.returns-in-Watch-clause-made
returns-in-Watch-clause-made g c = rw c.in-Watch.is (nothing_added g.S.System.outside c.args.answerer.now.disk.system.now _)

pub returns-in-Games-clause-answered : goal.returns-in-Games-clause-answered
returns-in-Games-clause-answered g c = rw c.in-Games.is (rw c.from_static.ensures at c.answer_report.ensures.report)

pub returns-in-Metrics-clause-answered : goal.returns-in-Metrics-clause-answered
returns-in-Metrics-clause-answered g c = rw c.in-Metrics.is (rw c.from_static-in-Metrics.ensures at c.answer_report-in-Metrics.ensures.report)

pub returns-in-Game-clause-same_games : goal.returns-in-Game-clause-same_games
returns-in-Game-clause-same_games g c = on_err c.answer_game_with_room.result refl
