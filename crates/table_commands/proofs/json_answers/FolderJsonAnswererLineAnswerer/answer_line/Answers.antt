use Rattle.std.proofs.Common.{Bool, ap, true, ◌∙◌}
use Rattle.answer_parts.specs.Asked.{reply_of}
use Rattle.answer_parts.specs.Reply.{IsText}
use Rattle.json_lines.specs.Objects.{json_text, line_json}
use Rattle.json_lines.specs.Told.{is_done}
use Rattle.judge_core.specs.declared.ask.Ask.TheVariants.{Strict}
use Rattle.table_folder.specs.Folders.{FolderOn}
use Rattle.table_folder.specs.declared.files.SystemFiles.{SystemFiles}
use Rattle.table_commands.specs.FolderAnswers.{IsSpelledBy, refused_table_in}
use Rattle.table_commands.specs.JsonAnswers.{TellsJson, json_lines_in, needed_by, object_told}
use Rattle.table_commands.proofs.FolderLineLaws.{line_lacked, line_written, room_behind}
use Rattle.table_commands.proofs.FollowLaws.{over_system}
use Rattle.table_commands.proofs.LineLaws.{object_done, object_text, same_by}
use Rattle.table_commands.proofs.json_answers.FolderJsonAnswererLineAnswerer.answer_line.Goals as goal

pub returns-in-Ok-answer_of-clause-made : goal.returns-in-Ok-answer_of-clause-made
returns-in-Ok-answer_of-clause-made g c =
    let folder = c.args.self.now.folder in
    let moves = c.args.self.now.with_moves in
    let o = g.S.System.outside c.args.system.now in
    let disk = (g.S.System.outside folder.on.disk.system.now).disk in
    let object = c.in-Ok.told in
    let reply = reply_of c.in-Ok-answer_of.answer in
    let is = c.in-Ok-answer_of.ensures.is in
    let told = over_system g.S.System.outside folder.on.disk.system.now c.args.system.now c.args.timeline.now c.line_of.new.timeline _ c.requires c.in-Ok.ensures.told in
    line_written disk folder.on.folder IsSpelledBy (needed_by moves) (TellsJson Strict moves) (refused_table_in true) IsText folder.tables c.args.line.now o c.line_of.new.self.folder.tables (json_text (line_json object)) reply.text (is_done object) _ c.write_answer.result _ _ _ (object_text reply object is) (object_done reply object is) told c.write_answer.ensures.made

pub returns-clause-made : goal.returns-clause-made
returns-clause-made g c =
    let folder = c.args.self.now.folder in
    let moves = c.args.self.now.with_moves in
    let o = g.S.System.outside c.args.system.now in
    let disk = (g.S.System.outside folder.on.disk.system.now).disk in
    let told = over_system g.S.System.outside folder.on.disk.system.now c.args.system.now c.args.timeline.now c.line_of.new.timeline _ c.requires c.in-Ok.ensures.told in
    let takes = c.in-Ok.ensures.position c.in-Err-answer_of.ensures.memory in
    let lacked = room_behind disk folder.on.folder IsSpelledBy (needed_by moves) (TellsJson Strict moves) (refused_table_in true) IsText folder.tables c.args.line.now o c.line_of.new.self.folder.tables (object_told c.in-Ok.told) _ _ takes told in
    line_lacked disk folder.on.folder IsSpelledBy (needed_by moves) (TellsJson Strict moves) (refused_table_in true) IsText folder.tables c.args.line.now o c.line_of.new.self.folder.tables _ _ lacked

pub returns-in-Err-clause-made : goal.returns-in-Err-clause-made
returns-in-Err-clause-made g c =
    let folder = c.args.self.now.folder in
    let moves = c.args.self.now.with_moves in
    let o = g.S.System.outside c.args.system.now in
    let disk = (g.S.System.outside folder.on.disk.system.now).disk in
    let lacked = over_system g.S.System.outside folder.on.disk.system.now c.args.system.now c.args.timeline.now c.line_of.new.timeline _ c.requires c.in-Err.ensures.room in
    line_lacked disk folder.on.folder IsSpelledBy (needed_by moves) (TellsJson Strict moves) (refused_table_in true) IsText folder.tables c.args.line.now o c.line_of.new.self.folder.tables _ _ lacked

pub returns-in-Ok-answer_of-clause-same : goal.returns-in-Ok-answer_of-clause-same
returns-in-Ok-answer_of-clause-same g c = same_by (λ (moves : Bool) (on : FolderOn (SystemFiles _)). json_lines_in moves (g.S.System.outside on.disk.system.now).disk on.folder) _ _ _ _ c.in-Ok.ensures.moves c.in-Ok.ensures.folder

pub returns-clause-same : goal.returns-clause-same
returns-clause-same g c = same_by (λ (moves : Bool) (on : FolderOn (SystemFiles _)). json_lines_in moves (g.S.System.outside on.disk.system.now).disk on.folder) _ _ _ _ c.in-Ok.ensures.moves c.in-Ok.ensures.folder

pub returns-in-Err-clause-same : goal.returns-in-Err-clause-same
returns-in-Err-clause-same g c = same_by (λ (moves : Bool) (on : FolderOn (SystemFiles _)). json_lines_in moves (g.S.System.outside on.disk.system.now).disk on.folder) _ _ _ _ c.in-Err.ensures.moves c.in-Err.ensures.folder

pub returns-in-Ok-answer_of-clause-still : goal.returns-in-Ok-answer_of-clause-still
returns-in-Ok-answer_of-clause-still g c = ap (λ (on : FolderOn (SystemFiles _)). on.disk.system.now) c.in-Ok.ensures.folder ∙ c.requires

pub returns-clause-still : goal.returns-clause-still
returns-clause-still g c = ap (λ (on : FolderOn (SystemFiles _)). on.disk.system.now) c.in-Ok.ensures.folder ∙ c.requires

pub returns-in-Err-clause-still : goal.returns-in-Err-clause-still
returns-in-Err-clause-still g c = ap (λ (on : FolderOn (SystemFiles _)). on.disk.system.now) c.in-Err.ensures.folder ∙ c.requires
