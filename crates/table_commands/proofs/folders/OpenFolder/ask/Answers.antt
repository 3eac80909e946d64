use Rattle.table_folder.specs.declared.files.SystemFiles.{SystemFiles}
use Rattle.table_commands.proofs.FolderReadLaws.{found_apart, found_kept, found_nowhere}
use Rattle.table_commands.proofs.folders.OpenFolder.ask.Goals as goal

pub returns-in-Ok-clause-made : goal.returns-in-Ok-clause-made
returns-in-Ok-clause-made g c =
    let q = c.args.asked.now in
    rw (← c.self.view_is) (found_kept _ _ (g.Q.FolderQuestion.needed q) (g.Q.FolderQuestion.finds q) _ c.ask.new.set.tables c.in-Ok.found _ _ c.in-Ok.ensures.made)

pub returns-in-Err-apart-clause-made : goal.returns-in-Err-apart-clause-made
returns-in-Err-apart-clause-made g c =
    let q = c.args.asked.now in
    rw (← c.self.view_is) (found_nowhere _ _ (g.Q.FolderQuestion.needed q) (g.Q.FolderQuestion.finds q) _ c.ask.new.set.tables c.in-Err.field-0 c.in-Err-apart.fault _ _ c.in-Err.ensures.made)

pub returns-in-Err-new_set-clause-made : goal.returns-in-Err-new_set-clause-made
returns-in-Err-new_set-clause-made g c =
    let q = c.args.asked.now in
    rw (← c.self.view_is) (found_nowhere _ _ (g.Q.FolderQuestion.needed q) (g.Q.FolderQuestion.finds q) _ c.ask.new.set.tables c.in-Err.field-0 c.in-Err-new_set.fault _ _ c.in-Err.ensures.made)

pub returns-clause-made : goal.returns-clause-made
returns-clause-made g c =
    let q = c.args.asked.now in
    rw (← c.self.view_is) (found_apart (λ (d : SystemFiles _). (g.S.System.outside d.system.now).disk) (λ (d : SystemFiles _) t. (g.S.System.outside d.system.now).events t) (g.Q.FolderQuestion.needed q) (g.Q.FolderQuestion.finds q) _ _ c.ask.new.set.tables c.in-Err.field-0 _ _ c.in-Err.ensures.made c.in-Ok-apart.folder _ c.ask-2.new.set.tables _ c.ask-2.result c.in-Ok-apart.ensures c.in-Ok-new_set.ensures.empty c.ask-2.ensures.made)
