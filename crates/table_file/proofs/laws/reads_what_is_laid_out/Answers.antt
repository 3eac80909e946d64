use Rattle.table_file.proofs.LayoutWhole.{reads_layout}
use Rattle.table_file.proofs.laws.reads_what_is_laid_out.Goals as goal

pub returns : goal.returns
returns c = reads_layout c.reads_what_is_spelled.ensures c.tables_are_numbered.ensures
