use Rattle.game_status.proofs.StoredLaws.{puts}
use Rattle.game_status.proofs.stored_records.keep.Goals as goal

pub returns-in-Ok : goal.returns-in-Ok
returns-in-Ok c = puts c.args.records.now c.insert.new.self c.args.entry c.in-Ok.ensures.updates.0
