use Rattle.served_games.proofs.FileHistories.{start_calls}
use Rattle.served_games.proofs.files.start.Goals as goal

pub returns : goal.returns
returns g c =
    let o = g.S.System.outside c.args.system.now in
    start_calls o (o.path c.args.file.now) c.args.file.now c.start.new.file c.start.result c.start.ensures.one c.start.ensures.lasts c.start.ensures.same
