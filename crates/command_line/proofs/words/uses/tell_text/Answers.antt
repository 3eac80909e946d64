use Rattle.command_line.proofs.PutLaws.{cut_tells, flushed}
use Rattle.command_line.proofs.words.uses.tell_text.Goals as goal

pub returns-in-Ok : goal.returns-in-Ok
returns-in-Ok g c =
    let written = rw c.as_bytes.ensures.value at c.in-Ok.ensures in
    flushed (g.S.System.outside c.args.system.now) _ _ _ c.args.text.now c.flush-gone.result written c.flush-gone.ensures.gone c.flush-gone.ensures.stuck c.flush-gone.ensures.made

pub returns-in-Err : goal.returns-in-Err
returns-in-Err g c =
    let cut = rw c.as_bytes.ensures.value at c.in-Err.ensures in
    cut_tells (g.S.System.outside c.args.system.now) _ _ c.args.text.now cut
