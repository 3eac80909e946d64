use Rattle.answer_commands.specs.Sending.{silence_a}
use Rattle.answer_commands.proofs.SendLaws.{both_written, first_cut, line_whole}
use Rattle.answer_commands.proofs.sending.write_silence.Goals as goal

pub returns-in-Ok : goal.returns-in-Ok
returns-in-Ok g c =
    let o = g.S.System.outside c.args.system.now in
    let first = line_whole o _ _ (silence_a c.args.known.now) (rw c.silence_line.ensures at c.in-Ok.ensures.made) in
    both_written o _ _ _ c.args.known.now first c.write_second.ensures

pub returns-in-Err : goal.returns-in-Err
returns-in-Err g c = first_cut (g.S.System.outside c.args.system.now) _ _ c.args.known.now c.in-Err.field-0 (rw c.silence_line.ensures at c.in-Err.ensures.made)
