use Rattle.std.proofs.Common.{List, refl, subst}
use Rattle.board_core.specs.declared.moves.Move.{Move}
use Rattle.move_msg.specs.GameTexts.{words_in}
use Rattle.move_notation.specs.Notations.{AreMovesIn, IsBadWordIn, notation_by}
use Rattle.system_io.proofs.HistoryLaws.{Passes-nil}
use Rattle.table_folder.specs.Reads.{PassesSome}
use Rattle.table_commands.specs.FolderReads.{made_reply}
use Rattle.table_commands.specs.Game.{BadWord, JudgesCourse, NoRoomForMoves, Plays, course_from}
use Rattle.table_commands.proofs.game.answer_from.Goals as goal

pub returns-in-Ok-Ok : goal.returns-in-Ok-Ok
returns-in-Ok-Ok g c =
    let t = c.args.task.now in
    let start = c.args.start.now in
    let read = rw c.in-Ok-Ok.field-0-is at c.in-Ok-Ok.ensures.ok in
    let named = rw c.by_flag-notation.ensures at read in
    let are = subst (λ text. AreMovesIn (notation_by t.san) start (words_in text) c.in-Ok-Ok.moves.items) c.input.ensures named in
    let asked = rw c.read_when_asked-path.ensures at c.outcome_at.ensures in
    let judged = rw c.deref.ensures.value at asked in
    (judged.0, judged.1, Plays c.in-Ok-Ok.moves.items are judged.2)

pub returns-in-Ok-Err : goal.returns-in-Ok-Err
returns-in-Ok-Err g c =
    let bad = rw c.in-Ok-Err.field-0-is at c.in-Ok-Err.ensures.err in
    let named = rw c.by_flag-notation.ensures at bad in
    let is = subst (λ text. IsBadWordIn (notation_by c.args.task.now.san) c.args.start.now (words_in text) c.in-Ok-Err.place) c.input.ensures named in
    (_, Passes-nil _, BadWord c.in-Ok-Err.place is refl refl)

pub returns-in-Err : goal.returns-in-Err
returns-in-Err g c = (_, Passes-nil _, NoRoomForMoves refl refl)
