use Rattle.task_files.proofs.InputReadLaws.{kept_read}
use Rattle.task_files.proofs.input_reading.read_kept.Goals as goal

pub returns-in-Some : goal.returns-in-Some
returns-in-Some g c =
    let read = c.read_within.ensures in
    rw c.in-Some.is (kept_read (g.S.System.outside c.args.system.now) _ _ c.in-Some.path.now c.read_within.result read.bytes read.short read.cause read.made)
