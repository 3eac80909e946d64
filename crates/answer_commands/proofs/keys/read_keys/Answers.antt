use Rattle.std.proofs.Common.{ap}
use Rattle.std.specs.Prelude.{Err}
use Rattle.answer_commands.proofs.KeyReadLaws.{keys_read, keys_unread}
use Rattle.answer_commands.proofs.keys.read_keys.Goals as goal

pub returns-in-Ok : goal.returns-in-Ok
returns-in-Ok g c =
    let file = c.in-Ok.ensures in
    keys_read (g.S.System.outside c.args.system.now) _ _ c.args.path.now c.in-Ok.file.bytes.items c.in-Ok.file.mode _ record { holds = file.bytes; short = file.short; has = file.mode } c.keys_of.ensures file.made

pub returns-in-Err : goal.returns-in-Err
returns-in-Err g c = keys_unread (g.S.System.outside c.args.system.now) _ _ c.args.path.now c.in-Err.fault _ (λ is. c.in-Err.ensures.cause (ap Err is)) (ap Err c.unread.ensures) c.in-Err.ensures.made
