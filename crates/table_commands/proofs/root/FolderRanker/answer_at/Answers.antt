use Rattle.std.proofs.Common.{refl}
use Rattle.std.specs.Prelude.{Err}
use Rattle.answer_parts.specs.Asked.{reply_of}
use Rattle.answer_parts.specs.Reply.{ForPosition, IsText}
use Rattle.judge_core.specs.declared.ask.Ask.TheVariants.{Strict}
use Rattle.table_folder.specs.Settled.{IsWithMoves}
use Rattle.table_commands.specs.FolderAnswers.{IsSpelledBy}
use Rattle.table_commands.specs.Root.{IsRootReply, TellsLine, reply_told, table_refused}
use Rattle.table_commands.proofs.FolderLineLaws.{line_found, line_refused, room_lacked}
use Rattle.table_commands.proofs.root.FolderRanker.answer_at.Goals as goal

pub returns-in-Ok-Ok-clause-told : goal.returns-in-Ok-Ok-clause-told
returns-in-Ok-Ok-clause-told g c =
    let on = c.args.self.now.folder.on in
    let o = g.S.System.outside on.disk.system.now in
    let p = c.args.position.now in
    line_found o.disk on.folder IsSpelledBy IsWithMoves (TellsLine Strict) table_refused IsText c.args.self.now.folder.tables c.args.text.now (λ tables a. IsRootReply Strict tables p (reply_of a)) (λ a. reply_told (reply_of a)) (λ tables a is. (reply_of a, ForPosition p c.requires.spelled c.requires.position is, refl)) p (c.requires.spelled, c.requires.position) c.ask.new.self.tables o _ _
    c.in-Ok-Ok.answer (rw c.in-Ok-Ok.field-0-is at c.in-Ok-Ok.ensures.made)

pub returns-in-Ok-Err-clause-told : goal.returns-in-Ok-Err-clause-told
returns-in-Ok-Err-clause-told g c =
    let on = c.args.self.now.folder.on in
    let o = g.S.System.outside on.disk.system.now in
    let p = c.args.position.now in
    line_refused o.disk on.folder IsSpelledBy IsWithMoves (TellsLine Strict) table_refused IsText c.args.self.now.folder.tables c.args.text.now (λ tables a. IsRootReply Strict tables p (reply_of a)) (λ a. reply_told (reply_of a)) (λ tables a is. (reply_of a, ForPosition p c.requires.spelled c.requires.position is, refl)) p (c.requires.spelled, c.requires.position) c.ask.new.self.tables o _ _
    c.in-Ok-Err.refused _ refl (rw c.in-Ok-Err.field-0-is at c.in-Ok-Err.ensures.made)

pub returns-in-Err-clause-room : goal.returns-in-Err-clause-room
returns-in-Err-clause-room g c =
    let on = c.args.self.now.folder.on in
    let o = g.S.System.outside on.disk.system.now in
    let p = c.args.position.now in
    room_lacked o.disk on.folder IsSpelledBy IsWithMoves (TellsLine Strict) table_refused IsText c.args.self.now.folder.tables c.args.text.now o (λ tables a. IsRootReply Strict tables p (reply_of a)) p c.ask.new.self.tables (Err c.in-Err.fault) _ _ (p, c.requires.spelled, c.requires.position) (c.requires.spelled, c.requires.position) c.in-Err.ensures.made
