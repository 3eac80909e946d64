use Rattle.std.proofs.Common.{◌∙◌, ◌==◌, ap, refl, subst}
use Rattle.answer_parts.specs.Asked.{reply_of}
use Rattle.answer_parts.specs.Reply.{IsText}
use Rattle.judge_core.specs.declared.ask.Ask.TheVariants.{Strict}
use Rattle.table_folder.specs.Folders.{FolderOn}
use Rattle.table_folder.specs.Settled.{IsWithMoves}
use Rattle.table_folder.specs.declared.files.SystemFiles.{SystemFiles}
use Rattle.timeline.specs.Outsides.{AddsSome}
use Rattle.table_commands.specs.FolderAnswers.{IsSpelledBy}
use Rattle.table_commands.specs.FolderReads.{LacksRoomFor}
use Rattle.table_commands.specs.Root.{AnswersRoot, TellsLine, root_lines_in, table_refused}
use Rattle.table_commands.proofs.FolderLineLaws.{line_lacked, line_written, same_over}
use Rattle.table_commands.proofs.root.FolderRankerLineAnswerer.answer_line.Goals as goal

pub returns-in-Ok-clause-made : goal.returns-in-Ok-clause-made
returns-in-Ok-clause-made g c =
    let self = c.args.self.now.folder in
    let o = g.S.System.outside c.args.system.now in
    let reply = reply_of c.in-Ok.answer in
    let told = subst (λ s. AddsSome (g.S.System.outside s) c.args.timeline.now c.answer.new.timeline (AnswersRoot (g.S.System.outside s).disk self.on.folder self.tables c.answer.new.self.folder.tables c.args.line.now reply)) c.requires c.in-Ok.ensures.told in
    rw c.requires (line_written o.disk self.on.folder IsSpelledBy IsWithMoves (TellsLine Strict) table_refused IsText self.tables c.args.line.now o c.answer.new.self.folder.tables reply.text _ (reply.status == 0) _ c.write_with_empty_line.result _ _ _ refl refl told c.write_with_empty_line.ensures.made)

pub returns-in-Err-clause-made : goal.returns-in-Err-clause-made
returns-in-Err-clause-made g c =
    let self = c.args.self.now.folder in
    let o = g.S.System.outside c.args.system.now in
    let lacks = subst (λ s. AddsSome (g.S.System.outside s) c.args.timeline.now c.answer.new.timeline (LacksRoomFor (g.S.System.outside s).disk self.on.folder IsSpelledBy IsWithMoves IsText self.tables c.args.line.now)) c.requires c.in-Err.ensures.room in
    rw c.requires (line_lacked o.disk self.on.folder IsSpelledBy IsWithMoves (TellsLine Strict) table_refused IsText self.tables c.args.line.now o c.answer.new.self.folder.tables _ _ lacks)

pub returns-in-Ok-clause-same : goal.returns-in-Ok-clause-same
returns-in-Ok-clause-same g c = same_over (λ (on : FolderOn (SystemFiles _)). root_lines_in (g.S.System.outside on.disk.system.now).disk on.folder) c.args.self.now.folder.on c.answer.new.self.folder.on c.answer.ensures.folder

pub returns-in-Err-clause-same : goal.returns-in-Err-clause-same
returns-in-Err-clause-same g c = same_over (λ (on : FolderOn (SystemFiles _)). root_lines_in (g.S.System.outside on.disk.system.now).disk on.folder) c.args.self.now.folder.on c.answer.new.self.folder.on c.answer.ensures.folder

pub returns-in-Ok-clause-still : goal.returns-in-Ok-clause-still
returns-in-Ok-clause-still g c = ap (λ (on : FolderOn (SystemFiles _)). on.disk.system.now) c.answer.ensures.folder ∙ c.requires

pub returns-in-Err-clause-still : goal.returns-in-Err-clause-still
returns-in-Err-clause-still g c = ap (λ (on : FolderOn (SystemFiles _)). on.disk.system.now) c.answer.ensures.folder ∙ c.requires
