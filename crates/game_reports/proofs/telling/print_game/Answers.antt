use Rattle.game_reports.proofs.TellLaws.{next_told, no_room_for_next}
use Rattle.game_reports.specs.GameLines.{TellsOf}
use Rattle.game_reports.specs.Inside.Opening.{known_folders}
use Rattle.game_reports.proofs.telling.print_game.Goals as goal

pub returns-in-Ok-clause-made : goal.returns-in-Ok-clause-made
returns-in-Ok-clause-made g c = next_told (g.S.System.outside c.args.system.now) (TellsOf (g.S.System.outside c.args.system.now).disk (known_folders c.args.folders.now) (g.T.LookTeller.tells c.args.teller.now)) _ _ _ c.args.stamp _ c.print_marked.result c.in-Ok.ensures.made c.print_marked.ensures.made

pub returns-in-Err-clause-made : goal.returns-in-Err-clause-made
returns-in-Err-clause-made g c = no_room_for_next (g.S.System.outside c.args.system.now) (TellsOf (g.S.System.outside c.args.system.now).disk (known_folders c.args.folders.now) (g.T.LookTeller.tells c.args.teller.now)) _ _ _ c.args.stamp c.print_marked-in-Err.result c.in-Err.ensures.made (rw c.words.ensures at c.print_marked-in-Err.ensures.made)
