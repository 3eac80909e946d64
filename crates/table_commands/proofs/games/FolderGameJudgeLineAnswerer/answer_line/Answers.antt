use Rattle.std.proofs.Common.{ap, refl, ℕ, ◌∙◌}
use Rattle.answer_parts.specs.Lines.{words_of}
use Rattle.move_msg.specs.TextLines.{ended}
use Rattle.table_folder.specs.Folders.{FolderOn}
use Rattle.table_folder.specs.declared.files.SystemFiles.{SystemFiles}
use Rattle.table_commands.specs.Courses.{in_play_of}
use Rattle.table_commands.specs.FolderAnswers.{refused_table}
use Rattle.table_commands.specs.Games.{HasStartFen, SpellsGame, TellsGameLine, game_lines_in}
use Rattle.table_commands.proofs.FolderLineLaws.{is_done, line_lacked, line_written}
use Rattle.table_commands.proofs.FollowLaws.{over_system}
use Rattle.table_commands.proofs.LineLaws.{same_by}
use Rattle.table_commands.proofs.games.FolderGameJudgeLineAnswerer.answer_line.Goals as goal

pub returns-in-Ok-clause-made : goal.returns-in-Ok-clause-made
returns-in-Ok-clause-made g c =
    let folder = c.args.self.now.folder in
    let delay = c.args.self.now.delay in
    let o = g.S.System.outside c.args.system.now in
    let disk = (g.S.System.outside folder.on.disk.system.now).disk in
    let told = over_system g.S.System.outside folder.on.disk.system.now c.args.system.now c.args.timeline.now c.answer.new.timeline _ c.requires c.in-Ok.ensures.told in
    line_written disk folder.on.folder (SpellsGame delay) in_play_of (TellsGameLine delay) refused_table HasStartFen folder.tables c.args.line.now o c.answer.new.self.folder.tables (words_of c.in-Ok.told) (ended (words_of c.in-Ok.told)) c.in-Ok.done _ c.write_answer.result _ _ _ refl (is_done c.in-Ok.done) told c.write_answer.ensures.made

pub returns-in-Err-clause-made : goal.returns-in-Err-clause-made
returns-in-Err-clause-made g c =
    let folder = c.args.self.now.folder in
    let delay = c.args.self.now.delay in
    let o = g.S.System.outside c.args.system.now in
    let disk = (g.S.System.outside folder.on.disk.system.now).disk in
    let lacked = over_system g.S.System.outside folder.on.disk.system.now c.args.system.now c.args.timeline.now c.answer.new.timeline _ c.requires c.in-Err.ensures.room in
    line_lacked disk folder.on.folder (SpellsGame delay) in_play_of (TellsGameLine delay) refused_table HasStartFen folder.tables c.args.line.now o c.answer.new.self.folder.tables _ _ lacked

pub returns-in-Ok-clause-same : goal.returns-in-Ok-clause-same
returns-in-Ok-clause-same g c = same_by (λ (delay : ℕ) (on : FolderOn (SystemFiles _)). game_lines_in delay (g.S.System.outside on.disk.system.now).disk on.folder) _ _ _ _ c.in-Ok.ensures.delay c.in-Ok.ensures.folder

pub returns-in-Err-clause-same : goal.returns-in-Err-clause-same
returns-in-Err-clause-same g c = same_by (λ (delay : ℕ) (on : FolderOn (SystemFiles _)). game_lines_in delay (g.S.System.outside on.disk.system.now).disk on.folder) _ _ _ _ c.in-Err.ensures.delay c.in-Err.ensures.folder

pub returns-in-Ok-clause-still : goal.returns-in-Ok-clause-still
returns-in-Ok-clause-still g c = ap (λ (on : FolderOn (SystemFiles _)). on.disk.system.now) c.in-Ok.ensures.folder ∙ c.requires

pub returns-in-Err-clause-still : goal.returns-in-Err-clause-still
returns-in-Err-clause-still g c = ap (λ (on : FolderOn (SystemFiles _)). on.disk.system.now) c.in-Err.ensures.folder ∙ c.requires
