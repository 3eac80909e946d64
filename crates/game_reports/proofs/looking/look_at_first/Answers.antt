use Rattle.game_reports.proofs.LookLaws.{by_look, look_named}
use Rattle.game_reports.specs.Asked.{first_alone}
use Rattle.game_reports.specs.Inside.Opening.{known_folders}
use Rattle.game_reports.proofs.looking.look_at_first.Goals as goal

pub returns-clause-named : goal.returns-clause-named
returns-clause-named g c =
    let disk = (g.S.System.outside c.args.system.now).disk in
    let f = first_alone (known_folders c.args.folders.now) in
    by_look disk f c.args.stamp _ (look_named disk f c.args.stamp) c.read_first.result (c.read_first.ensures.0, c.read_first.ensures.2)
