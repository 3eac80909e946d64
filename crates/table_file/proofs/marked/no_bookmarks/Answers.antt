use Rattle.table_file.proofs.Marks.{any_marks}
use Rattle.table_file.proofs.marked.no_bookmarks.Goals as goal

pub returns : goal.returns
returns c = any_marks c.none.result c.none.ensures
