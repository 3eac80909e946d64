use Rattle.game_reports.proofs.LookLaws.{by_look, look_few, look_named}
use Rattle.game_reports.specs.Inside.Opening.{known_folders}
use Rattle.game_reports.proofs.looking.look_at_game.Goals as goal

pub returns-clause-named : goal.returns-clause-named
returns-clause-named g c = by_look (g.S.System.outside c.args.system.now).disk (known_folders c.args.folders.now) c.args.stamp _ (look_named (g.S.System.outside c.args.system.now).disk (known_folders c.args.folders.now) c.args.stamp) c.read_look.result (c.read_look.ensures.0, c.read_look.ensures.2)

pub returns-clause-few : goal.returns-clause-few
returns-clause-few g c = by_look (g.S.System.outside c.args.system.now).disk (known_folders c.args.folders.now) c.args.stamp _ (look_few (g.S.System.outside c.args.system.now).disk (known_folders c.args.folders.now) c.args.stamp) c.read_look.result (c.read_look.ensures.0, c.read_look.ensures.2)
