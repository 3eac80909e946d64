use Rattle.table_commands.proofs.LineLaws.{columns_none}
use Rattle.table_commands.proofs.probes.FolderProber.answer.Goals as goal

pub returns-in-Ok-clause-told : goal.returns-in-Ok-clause-told
returns-in-Ok-clause-told g c = c.columns.ensures.told

pub returns-in-Ok-clause-room : goal.returns-in-Ok-clause-room
returns-in-Ok-clause-room g c = c.columns.ensures.room

pub returns-in-Err-clause-told : goal.returns-in-Err-clause-told
returns-in-Err-clause-told g c =
    let folder = c.args.self.now.folder in
    let o = g.S.System.outside folder.on.disk.system.now in
    columns_none o o.disk folder.on.folder folder.tables c.args.text.now c.args.timeline.now c.in-Err.fault c.in-Err.ensures.err
