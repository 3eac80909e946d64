use Rattle.std.proofs.Common.{refl, subst}
use Rattle.fen_text.specs.Fen.{IsFirstFenFault}
use Rattle.table_commands.specs.Courses.{in_play_of}
use Rattle.table_commands.specs.FolderAnswers.{refused_table}
use Rattle.table_commands.specs.Games.{HasStartFen, NoStart, SpellsGame, TellsGameLine}
use Rattle.table_commands.proofs.FolderLineLaws.{line_by_none}
use Rattle.table_commands.proofs.games.FolderGameJudge.answer.Goals as goal

pub returns-in-Ok-clause-told : goal.returns-in-Ok-clause-told
returns-in-Ok-clause-told g c = c.answer_from.ensures.told

pub returns-in-Ok-clause-room : goal.returns-in-Ok-clause-room
returns-in-Ok-clause-room g c = c.answer_from.ensures.room

pub returns-in-Err-clause-told : goal.returns-in-Err-clause-told
returns-in-Err-clause-told g c =
    let self = c.args.self.now in
    let o = g.S.System.outside self.folder.on.disk.system.now in
    let first = subst (λ t. IsFirstFenFault t c.in-Err.fault) c.start_in.ensures c.in-Err.ensures.err in
    line_by_none o.disk self.folder.on.folder (SpellsGame self.delay) in_play_of (TellsGameLine self.delay) refused_table HasStartFen self.folder.tables c.args.line.now o c.args.timeline.now _ (λ tables. NoStart c.in-Err.fault first refl)
