use Rattle.std.proofs.Common.{refl}
use Rattle.answer_parts.specs.Lines.{refusal_words}
use Rattle.answer_commands.specs.SentGames.{NotStamped}
use Rattle.answer_commands.proofs.SentLaws.{stamped}
use Rattle.answer_commands.proofs.sent_game.stamped_game.Goals as goal

pub returns-in-Ok : goal.returns-in-Ok
returns-in-Ok g c =
    let read = c.in-Ok.ensures in
    let disk = (g.S.System.outside c.args.system.now).disk in
    (read.0, read.1, stamped disk c.args.task.now c.args.told.now c.args.start c.in-Ok.manifest.items c.stamp.result read.0 c.requires.spelled c.requires.position read.2 (rw c.deref.ensures.value at c.stamp.ensures))

pub returns-in-Err : goal.returns-in-Err
returns-in-Err g c =
    let read = c.in-Err.ensures in
    (read.0, read.1, NotStamped c.args.start (refusal_words c.in-Err.refusal) c.requires.spelled c.requires.position read.2 refl)
