use Rattle.table_commands.proofs.FolderReadLaws.{no_room_to, opened_to}
use Rattle.table_commands.proofs.folders.opened_at.Goals as goal

pub returns-in-Ok-Err-clause-made : goal.returns-in-Ok-Err-clause-made
returns-in-Ok-Err-clause-made g c = opened_to _ _ _ _ _ _ (rw c.in-Ok-Err.field-0-is at c.in-Ok-Err.ensures.made)

pub returns-in-Err-clause-made : goal.returns-in-Err-clause-made
returns-in-Err-clause-made g c = opened_to _ _ _ _ _ _ c.in-Err.ensures.made

pub returns-in-Ok-clause-made : goal.returns-in-Ok-clause-made
returns-in-Ok-clause-made g c = opened_to _ _ _ _ _ _ (rw c.in-Ok-Ok.field-0-is at c.in-Ok-Ok.ensures.made)

pub returns-clause-made : goal.returns-clause-made
returns-clause-made g c = no_room_to _ _ _ _ _ c.in-Ok-Ok.folder.folder c.in-Err-new_set.fault (rw c.in-Ok-Ok.field-0-is at c.in-Ok-Ok.ensures.made)
