use Rattle.pgn_games.specs.Shown.{game_of}
use Rattle.pgn_teller.specs.Reports.{terms_of}
use Rattle.pgn_teller.proofs.ReportLaws.{game_made, game_unmade}
use Rattle.pgn_teller.proofs.reporting.judged_text.Goals as goal

pub returns-in-Ok-clause-made : goal.returns-in-Ok-clause-made
returns-in-Ok-clause-made g c =
    game_made (g.S.System.outside c.args.system.now) (g.R.GameRuler.rules c.args.reporter.now.ruler) _ _ _ _ (terms_of c.args.reporter.now) c.args.number (game_of c.args.game.now) c.in-Ok.ruling c.ruled_text.result c.in-Ok.ensures.made c.ruled_text.ensures

pub returns-in-Err-clause-made : goal.returns-in-Err-clause-made
returns-in-Err-clause-made g c =
    game_unmade (g.S.System.outside c.args.system.now) (g.R.GameRuler.rules c.args.reporter.now.ruler) _ _ _ _ (terms_of c.args.reporter.now) c.args.number (game_of c.args.game.now) c.in-Err.e c.in-Err.e c.in-Err.ensures.made
