use Rattle.table_commands.proofs.LineLaws.{for_position_line, object_none}
use Rattle.table_commands.proofs.json_answers.FolderJsonAnswerer.line_of.Goals as goal

pub returns-in-Ok-clause-told : goal.returns-in-Ok-clause-told
returns-in-Ok-clause-told g c = c.line_at.ensures.told

pub returns-in-Ok-clause-room : goal.returns-in-Ok-clause-room
returns-in-Ok-clause-room g c = c.line_at.ensures.room

pub returns-in-Ok-clause-position : goal.returns-in-Ok-clause-position
returns-in-Ok-clause-position g c = for_position_line c.line_at.result (c.in-Ok.position, c.in-Ok.ensures.ok, c.in-Ok.ensures.position)

pub returns-in-Err-clause-told : goal.returns-in-Err-clause-told
returns-in-Err-clause-told g c =
    let folder = c.args.self.now.folder in
    let o = g.S.System.outside folder.on.disk.system.now in
    object_none o o.disk folder.on.folder folder.tables c.args.text.now c.args.self.now.with_moves c.args.timeline.now c.in-Err.fault c.in-Err.ensures.err

pub returns-in-Err-clause-position : goal.returns-in-Err-clause-position
returns-in-Err-clause-position g c = λ h. absurd h
