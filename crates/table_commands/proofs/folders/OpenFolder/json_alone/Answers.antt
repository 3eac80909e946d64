use Rattle.table_commands.proofs.FolderReadLaws.{columns_told, for_columns, no_columns}
use Rattle.table_commands.proofs.folders.OpenFolder.json_alone.Goals as goal

pub returns-in-Ok-Ok-clause-made : goal.returns-in-Ok-Ok-clause-made
returns-in-Ok-Ok-clause-made g c = columns_told _ _ c.args.position.now _ _ c.in-Ok-Ok.columns _ _ (rw c.in-Ok-Ok.field-0-is at c.in-Ok-Ok.ensures.made)

pub returns-in-Ok-Err-clause-made : goal.returns-in-Ok-Err-clause-made
returns-in-Ok-Err-clause-made g c = for_columns _ _ c.args.position.now _ _ c.in-Ok-Err.refusal _ _ (rw c.in-Ok-Err.field-0-is at c.in-Ok-Err.ensures.made)

pub returns-in-Err-clause-made : goal.returns-in-Err-clause-made
returns-in-Err-clause-made g c = no_columns _ _ c.args.position.now _ _ c.in-Err.fault _ _ c.in-Err.ensures.made
