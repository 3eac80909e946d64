use Rattle.std.proofs.Common.{Err}
use Rattle.table_commands.specs.FolderAnswers.{IsSpelledBy}
use Rattle.table_commands.proofs.LineLaws.{columns_found, columns_lacked, columns_refused}
use Rattle.table_commands.proofs.probes.FolderProber.columns.Goals as goal

pub returns-in-Ok-Ok-clause-told : goal.returns-in-Ok-Ok-clause-told
returns-in-Ok-Ok-clause-told g c =
    let folder = c.args.self.now.folder in
    let o = g.S.System.outside folder.on.disk.system.now in
    let spells : IsSpelledBy c.args.text.now c.args.position.now = (c.requires.spelled, c.requires.position) in
    columns_found o o.disk folder.on.folder folder.tables c.args.text.now c.args.position.now spells c.ask.new.self.tables _ _ c.in-Ok-Ok.columns c.has_both.result c.has_both.ensures (rw c.in-Ok-Ok.field-0-is at c.in-Ok-Ok.ensures.made)

pub returns-in-Ok-Err-clause-told : goal.returns-in-Ok-Err-clause-told
returns-in-Ok-Err-clause-told g c =
    let folder = c.args.self.now.folder in
    let o = g.S.System.outside folder.on.disk.system.now in
    let spells : IsSpelledBy c.args.text.now c.args.position.now = (c.requires.spelled, c.requires.position) in
    columns_refused o o.disk folder.on.folder folder.tables c.args.text.now c.args.position.now spells c.ask.new.self.tables _ _ c.in-Ok-Err.refused (rw c.in-Ok-Err.field-0-is at c.in-Ok-Err.ensures.made)

pub returns-in-Err-clause-room : goal.returns-in-Err-clause-room
returns-in-Err-clause-room g c =
    let folder = c.args.self.now.folder in
    let o = g.S.System.outside folder.on.disk.system.now in
    let spells : IsSpelledBy c.args.text.now c.args.position.now = (c.requires.spelled, c.requires.position) in
    columns_lacked o o.disk folder.on.folder folder.tables c.args.text.now c.args.position.now spells c.ask.new.self.tables _ _ (Err c.in-Err.fault) c.in-Err.ensures.made
