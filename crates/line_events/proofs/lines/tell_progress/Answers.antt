use Rattle.task_files.proofs.TurnLaws.{was_cut, went_out}
use Rattle.line_events.proofs.LineLaws.{progress_told}
use Rattle.line_teller.specs.ToldLines.{done_words}
use Rattle.move_msg.specs.TextLines.{ended}
use Rattle.line_events.proofs.lines.tell_progress.Goals as goal

pub returns-in-Ok : goal.returns-in-Ok
returns-in-Ok g c =
    let o = g.S.System.outside c.args.system.now in
    let wrote = rw c.done_line.ensures at c.in-Ok.ensures.made in
    progress_told o _ _ c.args.progress c.args.lines c.if-not-progress.false c.if-lines-ne0.false (went_out o _ _ _ (ended (done_words c.args.lines)) c.flush-gone.result wrote c.flush-gone.ensures.made)

pub returns-in-Err : goal.returns-in-Err
returns-in-Err g c =
    let o = g.S.System.outside c.args.system.now in
    let wrote = rw c.done_line.ensures at c.in-Err.ensures.made in
    progress_told o _ _ c.args.progress c.args.lines c.if-not-progress.false c.if-lines-ne0.false (was_cut o _ _ (ended (done_words c.args.lines)) wrote)
