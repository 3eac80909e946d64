use Rattle.task_files.proofs.InputReadLaws.{input_read}
use Rattle.task_files.proofs.input_reading.read_input.Goals as goal

pub returns-then-is_wanted : goal.returns-then-is_wanted
returns-then-is_wanted g c =
    let read = c.read_input.ensures in
    rw c.if-is_wanted.true (input_read (g.S.System.outside c.args.system.now) _ _ c.read_input.result read.bytes read.short read.cause read.memory read.made)
