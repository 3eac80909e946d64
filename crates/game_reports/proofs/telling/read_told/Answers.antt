use Rattle.game_reports.proofs.TellLaws.{no_room_to_read, told_or_not}
use Rattle.game_reports.specs.Inside.Opening.{known_folders}
use Rattle.game_reports.proofs.telling.read_told.Goals as goal

pub returns-in-Ok-clause-made : goal.returns-in-Ok-clause-made
returns-in-Ok-clause-made g c = told_or_not (g.S.System.outside c.args.system.now) _ _ (known_folders c.args.folders.now) (g.T.LookTeller.tells c.args.teller.now) c.args.stamp c.in-Ok.look c.tell.result c.tell.ensures.told c.in-Ok.ensures.made

pub returns-in-Err-clause-made : goal.returns-in-Err-clause-made
returns-in-Err-clause-made g c = no_room_to_read (g.S.System.outside c.args.system.now) _ _ (known_folders c.args.folders.now) (g.T.LookTeller.tells c.args.teller.now) c.args.stamp c.in-Err.ensures.made

pub tell-requires : goal.tell-requires
tell-requires g c = c.in-Ok.ensures.few
