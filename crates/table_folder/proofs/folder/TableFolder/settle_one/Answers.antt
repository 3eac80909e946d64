use Rattle.table_folder.proofs.Reading.{opens_none, passes_none}
use Rattle.table_folder.proofs.folder.TableFolder.settle_one.Goals as goal

pub returns-then-is_out_of_scope-clause-made : goal.returns-then-is_out_of_scope-clause-made
returns-then-is_out_of_scope-clause-made g c = passes_none _ _ (opens_none _ _ _)
