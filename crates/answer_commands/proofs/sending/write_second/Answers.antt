use Rattle.answer_commands.specs.Sending.{silence_b}
use Rattle.answer_commands.proofs.SendLaws.{line_whole, second_cut, second_out}
use Rattle.answer_commands.proofs.sending.write_second.Goals as goal

pub returns-in-Ok : goal.returns-in-Ok
returns-in-Ok g c =
    let o = g.S.System.outside c.args.system.now in
    let first = line_whole o _ _ (silence_b c.args.known.now) (rw c.silence_line.ensures at c.in-Ok.ensures.made) in
    second_out o _ _ _ c.args.known.now c.flush-out.result first c.flush-out.ensures.made

pub returns-in-Err : goal.returns-in-Err
returns-in-Err g c = second_cut (g.S.System.outside c.args.system.now) _ _ c.args.known.now c.in-Err.field-0 (rw c.silence_line.ensures at c.in-Err.ensures.made)
