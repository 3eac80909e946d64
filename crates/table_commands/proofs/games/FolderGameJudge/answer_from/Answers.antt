use Rattle.std.proofs.Common.{refl, subst}
use Rattle.move_msg.specs.GameTexts.{IsBadWordAt, TellsMoves, words_in}
use Rattle.table_commands.specs.Games.{HasStartFen, NoMove, SpellsGame, TellsGameLine}
use Rattle.table_commands.specs.Courses.{in_play_of}
use Rattle.table_commands.specs.FolderAnswers.{refused_table}
use Rattle.table_commands.proofs.FolderLineLaws.{line_by_none, room_by_none}
use Rattle.table_commands.proofs.games.FolderGameJudge.answer_from.Goals as goal

pub returns-in-Ok-Ok-clause-told : goal.returns-in-Ok-Ok-clause-told
returns-in-Ok-Ok-clause-told g c = c.judge.ensures.told

pub returns-in-Ok-Ok-clause-room : goal.returns-in-Ok-Ok-clause-room
returns-in-Ok-Ok-clause-room g c = c.judge.ensures.room

pub returns-in-Ok-Err-clause-told : goal.returns-in-Ok-Err-clause-told
returns-in-Ok-Err-clause-told g c =
    let self = c.args.self.now in
    let o = g.S.System.outside self.folder.on.disk.system.now in
    let start : HasStartFen c.args.line.now = (c.args.start.now, c.requires.spelled, c.requires.position) in
    let bad = rw c.in-Ok-Err.field-0-is at c.in-Ok-Err.ensures.err in
    let bad_word = subst (λ t. IsBadWordAt (words_in t) c.in-Ok-Err.place) c.moves_in.ensures bad in
    line_by_none o.disk self.folder.on.folder (SpellsGame self.delay) in_play_of (TellsGameLine self.delay) refused_table HasStartFen self.folder.tables c.args.line.now o c.args.timeline.now _ (λ tables. NoMove start c.in-Ok-Err.place bad_word refl)

pub returns-in-Err-clause-room : goal.returns-in-Err-clause-room
returns-in-Err-clause-room g c =
    let self = c.args.self.now in
    let o = g.S.System.outside self.folder.on.disk.system.now in
    room_by_none o.disk self.folder.on.folder (SpellsGame self.delay) in_play_of (TellsGameLine self.delay) refused_table HasStartFen self.folder.tables c.args.line.now o c.args.timeline.now (c.args.start.now, c.requires.spelled, c.requires.position)

pub judge-requires-clause-moves : goal.judge-requires-clause-moves
judge-requires-clause-moves g c =
    let tells = rw c.in-Ok-Ok.field-0-is at c.in-Ok-Ok.ensures.ok in
    rw c.deref.ensures.value (subst (λ t. TellsMoves t c.in-Ok-Ok.moves.items) c.moves_in.ensures tells)
