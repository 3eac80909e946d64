use Rattle.served_games.proofs.FileHistories.{put_calls}
use Rattle.served_games.proofs.files.put.Goals as goal

pub returns : goal.returns
returns g c =
    let o = g.S.System.outside c.args.system.now in
    put_calls o (o.path c.args.file.now) c.args.file.now c.put.new.file c.put.result c.args.bytes.now c.put.ensures.ok c.put.ensures.err
